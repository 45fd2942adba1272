use Rattle.std.proofs.Common.{◌≡◌, ◌&&◌, drop}
use Rattle.std.specs.List.{list_any}
use Rattle.mt_terms.specs.Stability.{would_be_taken}
use Rattle.mt_terms.specs.declared.numbers.Agent.TheVariants.{Couple}
use Rattle.mt_assignment.specs.Assigned.{pair_of}
use Rattle.mt_assignment.specs.Moves.{names_one_of, opens}
use Rattle.mt_assignment.proofs.assignment.Assignment.couple_opens.Given as goal

abbrev pub invariant-loop-pair : goal.invariant-loop-pair
invariant-loop-pair l =
    list_any (λ pair. names_one_of l.programs (pair_of l.self l.fn.couple pair) && would_be_taken l.self.market l.self.places (pair_of l.self l.fn.couple pair)) (drop l.pair-index l.pair-items)
    ≡ opens l.self l.programs (Couple l.fn.couple)
