use Rattle.std.proofs.Common.{◌≡◌, ◌≤◌, ◌+◌, ◌*◌, ◌^◌}
use Rattle.mt_terms.specs.Lists.{total_below}
use Rattle.mt_terms.specs.Market.{live_entries}
use Rattle.mt_fault_text.specs.Mutual.{mutual_of_couple}
use Rattle.mt_fault_text.proofs.mutual.mutual_entries.Given as goal

-- those of the singles, and of the couples so far
abbrev pub invariant-loop-number : goal.invariant-loop-number
invariant-loop-number g l = record {
  so_far : l.count ≡ live_entries l.roster.market + total_below (mutual_of_couple l.roster.market) l.number;
  small : l.count ≤ 2 ^ 32 + l.number * 40000;
}
