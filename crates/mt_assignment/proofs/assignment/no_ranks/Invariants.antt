use Rattle.std.proofs.Common.{◌≡◌, ℕ, false, length}
use Rattle.mt_assignment.specs.Watched.{ranks_at}
use Rattle.mt_assignment.proofs.assignment.no_ranks.Given as goal

abbrev pub invariant-loop-number : goal.invariant-loop-number
invariant-loop-number l = record {
  counted : length l.table ≡ l.number;
  none : (p r : ℕ) → ranks_at l.table p r ≡ false;
}
