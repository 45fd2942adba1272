use Rattle.std.proofs.Common.{◌≡◌, ℕ, ◌<◌, get_or, take, length}
use Rattle.mt_terms.specs.Lists.{count}
use Rattle.mt_terms.specs.Matching.{is_program}
use Rattle.mt_statistics.proofs.held.counts_below.Given as goal

-- how often each number is among those so far
abbrev pub invariant-loop-kept : goal.invariant-loop-kept
invariant-loop-kept l = record {
  numbers : length l.counts.items ≡ l.top;
  counts : (k : ℕ) → k < l.top → get_or l.counts.items k 0 ≡ count (is_program k) (take l.kept-index l.held);
}
