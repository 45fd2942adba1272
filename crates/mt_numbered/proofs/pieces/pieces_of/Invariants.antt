use Rattle.std.proofs.Common.{◌≡◌, ◌++◌, length}
use Rattle.std.specs.Prelude.{flat_map}
use Rattle.mt_lists.specs.Rows.{fields_left}
use Rattle.mt_numbered.specs.Pieces.{piece_ids}
use Rattle.mt_numbered.proofs.pieces.pieces_of.Given as goal

abbrev pub invariant-loop-left : goal.invariant-loop-left
invariant-loop-left l = record {
  left : l.left ≡ length (fields_left l.rest);
  whole : flat_map piece_ids l.pieces.items ++ fields_left l.rest ≡ fields_left l.fn.list;
}

abbrev pub decreases-loop-left : goal.decreases-loop-left
decreases-loop-left l = l.left
