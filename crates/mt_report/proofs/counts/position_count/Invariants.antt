use Rattle.std.proofs.Common.{◌≡◌, ◌≤◌, ◌*◌, ◌^◌}
use Rattle.mt_terms.specs.Lists.{total_below}
use Rattle.mt_terms.specs.Market.{Program, program_of}
use Rattle.mt_report.proofs.counts.position_count.Given as goal

abbrev pub invariant-loop-number : goal.invariant-loop-number
invariant-loop-number l = record {
  total : l.count ≡ total_below (λ p. Program.quota (program_of l.roster.market p)) l.number;
  small : l.count ≤ l.number * 2 ^ 32;
}
