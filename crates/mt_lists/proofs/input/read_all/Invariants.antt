use Rattle.std.proofs.Common.{◌≡◌, ◌+◌, ◌-◌, length}
use Rattle.mt_lists.proofs.InputFacts.{ReadSoFar}
use Rattle.mt_lists.proofs.input.read_all.Given as goal

abbrev pub invariant-loop-came : goal.invariant-loop-came
invariant-loop-came g l = ReadSoFar g.R.Read.remaining l.fn.tap l.tap l.limit l.bytes.items × (length l.piece ≡ 65536)

abbrev pub decreases-loop-came : goal.decreases-loop-came
decreases-loop-came g l = l.limit + 1 - length l.bytes.items
