use Rattle.std.proofs.Common.{◌≡◌, take}
use Rattle.mt_terms.specs.Matching.{at, ranks_from}
use Rattle.mt_verify.proofs.placed.placed_at.Given as goal

-- the ranks of those so far
abbrev pub invariant-loop-rank : goal.invariant-loop-rank
invariant-loop-rank l = l.ranks.items ≡ ranks_from 0 (at l.matched.places l.program) (take l.rank l.applicant-items)
