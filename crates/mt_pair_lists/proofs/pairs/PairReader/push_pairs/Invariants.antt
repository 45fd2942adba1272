use Rattle.std.proofs.Common.{◌≡◌, ◌++◌, length, map}
use Rattle.std.specs.List.{list_all}
use Rattle.mt_draft_laws.specs.Faultless.{pair_stands}
use Rattle.mt_terms.specs.Registration.Numbering.{pair_by_number}
use Rattle.mt_records.specs.Fields.{pairs_left}
use Rattle.mt_id_lists.specs.Reading.{with_kept}
use Rattle.mt_pair_lists.specs.Pairs.{pairs_by}
use Rattle.mt_pair_lists.proofs.pairs.PairReader.push_pairs.Given as goal

abbrev pub invariant-loop-first : goal.invariant-loop-first
invariant-loop-first l = record {
  count : length l.lists ≡ length l.fn.lists;
  stand : list_all (pair_stands l.self.half_pairs l.self.programs.now.ids) (pairs_left l.first-iterator)
      ≡ list_all (pair_stands l.self.half_pairs l.self.programs.now.ids) (pairs_left l.fn.list);
  rest : with_kept l.kept l.lists (pairs_by l.self.programs.now (pairs_left l.first-iterator)) ≡ with_kept l.kept l.fn.lists (pairs_by l.self.programs.now (pairs_left l.fn.list));
  numbered : l.found.items ++ map (pair_by_number l.self.programs.now.ids) (pairs_left l.first-iterator) ≡ map (pair_by_number l.self.programs.now.ids) (pairs_left l.fn.list);
}
