use Rattle.std.proofs.Common.{◌≡◌, ◌≤◌}
use Rattle.mt_terms.specs.Lists.{count_below}
use Rattle.mt_statistics.specs.Counts.{has_choice_from}
use Rattle.mt_statistics.proofs.statistics.Statistics.choices_from.Given as goal

-- how many so far
abbrev pub invariant-loop-number : goal.invariant-loop-number
invariant-loop-number l = record {
  so_far : l.count ≡ count_below (has_choice_from l.self.registered.market l.self.places l.choice) l.number;
  small : l.count ≤ l.number;
}
