use Rattle.std.proofs.Common.{◌-◌, length}
use Rattle.memchr.specs.Find.{is_byte, Nowhere, Passes}
use Rattle.mt_lists.proofs.lines.first_comma.Given as goal

abbrev pub invariant-loop-at : goal.invariant-loop-at
invariant-loop-at l = Nowhere (Passes (is_byte 44) l.line) 0 l.at

abbrev pub decreases-loop-at : goal.decreases-loop-at
decreases-loop-at l = length l.line - l.at
