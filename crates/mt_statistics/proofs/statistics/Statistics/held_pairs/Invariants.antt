use Rattle.std.proofs.Common.{◌≡◌, map}
use Rattle.mt_terms.specs.Lists.{below}
use Rattle.mt_terms.specs.declared.numbers.Agent.TheVariants.{Couple}
use Rattle.mt_verify.specs.Held.{held_option}
use Rattle.mt_statistics.proofs.statistics.Statistics.held_pairs.Given as goal

-- what each so far has
abbrev pub invariant-loop-number : goal.invariant-loop-number
invariant-loop-number l = l.held.items ≡ map (λ a. held_option l.self.registered.market l.self.places (Couple a)) (below l.number)
