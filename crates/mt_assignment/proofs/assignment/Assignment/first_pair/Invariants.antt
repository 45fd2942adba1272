use Rattle.std.proofs.Common.{◌≡◌, drop}
use Rattle.std.specs.List.{find}
use Rattle.std.specs.Option.{option_map}
use Rattle.mt_terms.specs.Stability.{would_be_taken}
use Rattle.mt_terms.specs.declared.numbers.Agent.TheVariants.{Couple}
use Rattle.mt_assignment.specs.Assigned.{pair_of, taken_by}
use Rattle.mt_assignment.proofs.assignment.Assignment.first_pair.Given as goal

abbrev pub invariant-loop-pair : goal.invariant-loop-pair
invariant-loop-pair l =
    option_map (pair_of l.self l.fn.couple) (find (λ pair. would_be_taken l.self.market l.self.places (pair_of l.self l.fn.couple pair)) (drop l.pair-index l.pair-items))
    ≡ taken_by l.self (Couple l.fn.couple)
