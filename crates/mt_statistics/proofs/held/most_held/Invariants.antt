use Rattle.std.proofs.Common.{◌≡◌, None}
use Rattle.std.specs.Prelude.{slice_index_or}
use Rattle.mt_statistics.specs.Counts.{greatest_below, ordinal}
use Rattle.mt_statistics.proofs.held.most_held.Given as goal

-- the largest of those so far
abbrev pub invariant-loop-kept : goal.invariant-loop-kept
invariant-loop-kept l = l.most ≡ greatest_below (λ i. ordinal (slice_index_or l.held i None)) l.kept-index
