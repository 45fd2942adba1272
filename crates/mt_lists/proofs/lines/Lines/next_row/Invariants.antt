use Rattle.std.proofs.Common.{◌≡◌, length}
use Rattle.mt_lists.specs.Records.{rows_of}
use Rattle.mt_lists.proofs.lines.Lines.next_row.Given as goal

abbrev pub invariant-loop-left : goal.invariant-loop-left
invariant-loop-left l = rows_of l.fn.self.text.now ≡ rows_of l.left.text.now

abbrev pub decreases-loop-left : goal.decreases-loop-left
decreases-loop-left l = length l.left.text.now
