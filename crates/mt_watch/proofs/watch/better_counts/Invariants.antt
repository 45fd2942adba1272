use Rattle.std.proofs.Common.{◌≡◌, ◌<◌, ℕ, length}
use Rattle.mt_watch.specs.Watching.{IsCounted}
use Rattle.mt_watch.proofs.watch.better_counts.Given as goal

abbrev pub invariant-loop-number : goal.invariant-loop-number
invariant-loop-number l = record {
  as_many : length l.counts.items ≡ l.number;
  each : (c : ℕ) → c < l.number → IsCounted l.assignment l.counts.items c;
}
