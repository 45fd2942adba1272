use Rattle.std.proofs.Common.{◌≡◌, ◌++◌, take, drop}
use Rattle.mt_terms.specs.Lists.{until}
use Rattle.mt_terms.specs.Matching.{holds}
use Rattle.mt_assignment.specs.Assigned.{pair_of}
use Rattle.mt_assignment.proofs.assignment.Assignment.better_pairs.Given as goal

abbrev pub invariant-loop-end : goal.invariant-loop-end
invariant-loop-end l =
    take l.end l.pairs ++ until (λ pair. holds l.self.places (pair_of l.self l.fn.couple pair)) (drop l.end l.pairs)
    ≡ until (λ pair. holds l.self.places (pair_of l.self l.fn.couple pair)) l.pairs
