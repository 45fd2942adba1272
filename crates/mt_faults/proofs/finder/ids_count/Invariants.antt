use Rattle.std.proofs.Common.{◌≡◌, ◌+◌, ◌≤◌, length, min}
use Rattle.mt_fault_terms.specs.Parts.{ids_among}
use Rattle.mt_faults.specs.Registered.{most}
use Rattle.mt_faults.specs.Seen.{placed_left}
use Rattle.mt_faults.proofs.finder.ids_count.Given as goal

-- with the fields that have yet to come, the count is what it will be
abbrev pub invariant-loop-field : goal.invariant-loop-field
invariant-loop-field l = record {
  small : l.count ≤ most;
  counts : min (l.count + length (ids_among l.rules (placed_left l.field-iterator))) most ≡ min (length (ids_among l.rules (placed_left l.fn.fields))) most;
}
