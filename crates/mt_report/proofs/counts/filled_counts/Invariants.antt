use Rattle.std.proofs.Common.{◌≡◌, ℕ, ◌<◌, get_or, take, length}
use Rattle.mt_terms.specs.Matching.{filled}
use Rattle.mt_report.proofs.counts.filled_counts.Given as goal

-- each program's count over the places so far
abbrev pub invariant-loop-place : goal.invariant-loop-place
invariant-loop-place l = record {
  programs : length l.counts.items ≡ l.programs;
  counts : (p : ℕ) → p < l.programs → get_or l.counts.items p 0 ≡ filled (take l.place-index l.places) p;
}
