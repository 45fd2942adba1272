use Rattle.std.proofs.Common.{◌≡◌, ◌≤◌, ◌*◌, ◌^◌}
use Rattle.std.specs.Prelude.{slice_index}
use Rattle.mt_terms.specs.Lists.{total_below}
use Rattle.mt_report.proofs.counts.filled_total.Given as goal

abbrev pub invariant-loop-count : goal.invariant-loop-count
invariant-loop-count l = record {
  sum_so_far : l.total ≡ total_below (slice_index l.counts) l.count-index;
  small : l.total ≤ l.count-index * 2 ^ 32;
}
