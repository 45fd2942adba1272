use Rattle.std.proofs.Common.{◌≡◌, drop, length}
use Rattle.mt_id_lists.specs.Reading.{with_kept}
use Rattle.mt_numbered.proofs.PieceFacts.{meets, numbers_at}
use Rattle.mt_numbered.proofs.pieces.push_places.Given as goal

abbrev pub invariant-loop-place : goal.invariant-loop-place
invariant-loop-place g l = record {
  long : length l.met ≡ length l.fn.met;
  count : length l.lists ≡ length l.fn.lists;
  first : meets l.met (drop l.place-index l.places) ≡ meets l.fn.met l.places;
  rest : with_kept l.kept l.lists (numbers_at l.ids (drop l.place-index l.places)) ≡ with_kept l.kept l.fn.lists (numbers_at l.ids l.places);
}
