use Rattle.std.proofs.Common.{◌≡◌, ◌++◌, take, drop}
use Rattle.mt_terms.specs.Lists.{until}
use Rattle.mt_terms.specs.Matching.{at}
use Rattle.mt_ranks.specs.declared.entries.Live.{Live}
use Rattle.mt_assignment.proofs.assignment.Assignment.live_parts.Given as goal

abbrev pub invariant-loop-end : goal.invariant-loop-end
invariant-loop-end l =
    take l.end l.live ++ until (λ (e : Live). at l.self.places e.program l.fn.single) (drop l.end l.live) ≡ until (λ (e : Live). at l.self.places e.program l.fn.single) l.live
