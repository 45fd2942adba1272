use Rattle.std.proofs.Common.{◌≡◌, drop, length}
use Rattle.mt_lists.specs.Lines.{fields_of_line}
use Rattle.mt_lists.proofs.lines.past_pieces.Given as goal

abbrev pub invariant-loop-rest : goal.invariant-loop-rest
invariant-loop-rest l = drop l.left (fields_of_line l.rest) ≡ drop l.fn.count (fields_of_line l.fn.line)

abbrev pub decreases-loop-rest : goal.decreases-loop-rest
decreases-loop-rest l = length l.rest
