use Rattle.std.proofs.Common.{◌≡◌, ◌&&◌, drop}
use Rattle.std.specs.List.{list_any}
use Rattle.mt_terms.specs.Stability.{would_be_taken}
use Rattle.mt_assignment.specs.Assigned.{pair_of}
use Rattle.mt_stage_tables.specs.Named.{names}
use Rattle.mt_assignment.specs.Watched.{opens_between}
use Rattle.mt_assignment.proofs.assignment.Assignment.opens_between.Given as goal

abbrev pub invariant-loop-pair : goal.invariant-loop-pair
invariant-loop-pair l =
    list_any (λ pair. names l.fn.program pair && would_be_taken l.self.market l.self.places (pair_of l.self l.fn.couple pair)) (drop l.pair-index l.pair-items)
    ≡ opens_between l.self l.fn.couple l.fn.program l.fn.from l.fn.end
