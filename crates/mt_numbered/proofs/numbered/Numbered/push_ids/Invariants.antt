use Rattle.std.proofs.Common.{◌≡◌, length}
use Rattle.mt_lists.specs.Rows.{fields_left}
use Rattle.mt_terms.specs.Registration.Ids.{stands_once}
use Rattle.mt_id_lists.specs.Numbering.{numbers_by}
use Rattle.mt_id_lists.specs.Reading.{with_kept}
use Rattle.mt_id_lists.proofs.MetFacts.{stands_from}
use Rattle.mt_numbered.proofs.BatchFacts.{left_from}
use Rattle.mt_numbered.proofs.numbered.Numbered.push_ids.Given as goal

abbrev pub invariant-loop-rest : goal.invariant-loop-rest
invariant-loop-rest g l = record {
  long : length l.met ≡ length l.fn.met;
  count : length l.lists ≡ length l.fn.lists;
  stands : stands_from l.self.ids l.met (fields_left l.rest) ≡ stands_once l.self.ids (fields_left l.fn.list);
  rest : with_kept l.kept l.lists (numbers_by l.self (fields_left l.rest)) ≡ with_kept l.kept l.fn.lists (numbers_by l.self (fields_left l.fn.list));
}

abbrev pub decreases-loop-rest : goal.decreases-loop-rest
decreases-loop-rest g l = length (fields_left l.rest)

abbrev pub invariant-loop-i : goal.invariant-loop-i
invariant-loop-i g l = record {
  long : length l.met ≡ length l.fn.met;
  count : length l.lists ≡ length l.fn.lists;
  stands : stands_from l.self.ids l.met (left_from l.i l.count l.fields (fields_left l.rest)) ≡ stands_once l.self.ids (fields_left l.fn.list);
  rest : with_kept l.kept l.lists (numbers_by l.self (left_from l.i l.count l.fields (fields_left l.rest))) ≡ with_kept l.kept l.fn.lists (numbers_by l.self (fields_left l.fn.list));
}
