use Rattle.std.proofs.Common.{◌≡◌}
use Rattle.mt_fault_terms.specs.Parts.{ids_among}
use Rattle.mt_faults.specs.Registered.{added}
use Rattle.mt_faults.specs.Seen.{placed_left}
use Rattle.mt_faults.proofs.registry.add_ids.Given as goal

-- with the ids that have yet to come, the table is what it will be
abbrev pub invariant-loop-field : goal.invariant-loop-field
invariant-loop-field l = added l.table (ids_among l.rules (placed_left l.field-iterator)) ≡ added l.fn.table (ids_among l.rules (placed_left l.fn.fields))
