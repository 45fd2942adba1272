use Rattle.std.proofs.Common.{◌≡◌, ◌≤◌}
use Rattle.mt_terms.specs.Lists.{count_below}
use Rattle.mt_statistics.specs.Counts.{is_empty, is_full, is_partly_filled}
use Rattle.mt_statistics.proofs.statistics.Statistics.program_counts.Given as goal

-- how many of those so far are of each kind
abbrev pub invariant-loop-number : goal.invariant-loop-number
invariant-loop-number l = record {
  full : l.counts.full ≡ count_below (is_full l.self.registered.market l.self.places) l.number;
  partly_filled : l.counts.partly_filled ≡ count_below (is_partly_filled l.self.registered.market l.self.places) l.number;
  empty : l.counts.empty ≡ count_below (is_empty l.self.registered.market l.self.places) l.number;
  few_full : l.counts.full ≤ l.number;
  few_partly_filled : l.counts.partly_filled ≤ l.number;
  few_empty : l.counts.empty ≤ l.number;
}
