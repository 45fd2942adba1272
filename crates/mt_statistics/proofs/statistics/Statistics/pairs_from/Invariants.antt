use Rattle.std.proofs.Common.{◌≡◌, ◌≤◌}
use Rattle.mt_terms.specs.Lists.{count_below}
use Rattle.mt_terms.specs.declared.numbers.Agent.TheVariants.{Couple}
use Rattle.mt_verify.specs.Held.{held_option}
use Rattle.mt_statistics.specs.Counts.{is_from}
use Rattle.mt_statistics.proofs.statistics.Statistics.pairs_from.Given as goal

-- how many so far
abbrev pub invariant-loop-number : goal.invariant-loop-number
invariant-loop-number l = record {
  so_far : l.count ≡ count_below (λ c. is_from l.pair (held_option l.self.registered.market l.self.places (Couple c))) l.number;
  small : l.count ≤ l.number;
}
