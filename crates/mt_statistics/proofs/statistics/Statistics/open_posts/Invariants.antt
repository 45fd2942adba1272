use Rattle.std.proofs.Common.{◌≡◌, ◌≤◌, ◌*◌, ◌^◌}
use Rattle.mt_terms.specs.Lists.{total_below}
use Rattle.mt_statistics.specs.Counts.{open_at}
use Rattle.mt_statistics.proofs.statistics.Statistics.open_posts.Given as goal

-- the open posts of the programs so far
abbrev pub invariant-loop-number : goal.invariant-loop-number
invariant-loop-number l = record {
  so_far : l.count ≡ total_below (open_at l.self.registered.market l.self.places) l.number;
  small : l.count ≤ l.number * 2 ^ 32;
}
