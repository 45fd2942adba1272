use Rattle.std.proofs.Common.{◌≡◌}
use Rattle.std.specs.Prelude.{slice_index_or}
use Rattle.mt_statistics.specs.Counts.{greatest_below}
use Rattle.mt_statistics_page.proofs.pieces.largest.Given as goal

-- the largest of those so far
abbrev pub invariant-loop-count : goal.invariant-loop-count
invariant-loop-count l = l.most ≡ greatest_below (λ k. slice_index_or l.counts k 0) l.count-index
