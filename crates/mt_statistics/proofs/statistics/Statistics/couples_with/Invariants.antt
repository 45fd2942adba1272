use Rattle.std.proofs.Common.{◌≡◌, ◌≤◌, ◌==◌}
use Rattle.mt_terms.specs.Lists.{count_below}
use Rattle.mt_statistics.specs.Counts.{placed_members}
use Rattle.mt_statistics.proofs.statistics.Statistics.couples_with.Given as goal

-- how many so far
abbrev pub invariant-loop-number : goal.invariant-loop-number
invariant-loop-number l = record {
  so_far : l.count ≡ count_below (λ c. placed_members l.self.registered.market l.self.places c == l.placed) l.number;
  small : l.count ≤ l.number;
}
