use Rattle.std.proofs.Common.{◌≡◌, drop, length}
use Rattle.mt_id_lists.specs.Reading.{ids_read, ids_stand}
use Rattle.mt_id_lists.proofs.ReadingSteps.{AreReadTo}
use Rattle.mt_numbered.specs.IdLists.{list_seen}
use Rattle.mt_numbered.proofs.pieces.read_in_pieces.Given as goal

abbrev pub invariant-loop-list : goal.invariant-loop-list
invariant-loop-list g l = record {
  long : length l.met ≡ length l.ids.ids;
  lists : AreReadTo (λ list. ids_stand l.ids (list_seen list)) (λ list. ids_read l.ids (list_seen list)) l.lists l.read (drop l.list-index l.lists);
}
