use Rattle.std.proofs.Common.{◌≡◌, take}
use Rattle.std.specs.List.{count_by}
use Rattle.mt_lists.specs.Lines.{is_comma}
use Rattle.mt_lists.proofs.lines.piece_commas.Given as goal

abbrev pub invariant-loop-byte : goal.invariant-loop-byte
invariant-loop-byte l = l.count ≡ count_by is_comma (take l.byte-index l.piece)
