use Rattle.std.proofs.Common.{◌≡◌, ◌<◌, ◌-◌, ◌++◌, length, map, take}
use Rattle.std.specs.List.{list_all}
use Rattle.mt_lists.specs.Rows.{fields_left}
use Rattle.mt_terms.specs.Registration.Ids.{has_id, number_of}
use Rattle.mt_id_lists.specs.Reading.{with_more}
use Rattle.mt_numbered.specs.Pieces.{piece_read, piece_stands}
use Rattle.mt_numbered.proofs.BatchFacts.{left_from}
use Rattle.mt_numbered.proofs.pieces.PlaceReaderListReaderPieceUnit.read_list.Given as goal

abbrev pub invariant-loop-left : goal.invariant-loop-left
invariant-loop-left g l = record {
  begun : 0 < length l.lists;
  stands : list_all (has_id l.self) (take l.left (fields_left l.rest)) ≡ piece_stands l.self l.piece;
  rest : with_more l.lists (map (number_of l.self) (take l.left (fields_left l.rest))) ≡ l.fn.lists ++ piece_read l.self l.piece;
}

abbrev pub decreases-loop-left : goal.decreases-loop-left
decreases-loop-left g l = l.left

abbrev pub invariant-loop-i : goal.invariant-loop-i
invariant-loop-i g l = record {
  begun : 0 < length l.lists;
  stands : list_all (has_id l.self) (left_from l.i l.count l.fields (take (l.left - l.count) (fields_left l.rest))) ≡ piece_stands l.self l.piece;
  rest : with_more l.lists (map (number_of l.self) (left_from l.i l.count l.fields (take (l.left - l.count) (fields_left l.rest)))) ≡ l.fn.lists ++ piece_read l.self l.piece;
}
