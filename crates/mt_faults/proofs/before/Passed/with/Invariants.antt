use Rattle.mt_fault_terms.specs.Parts.{ids_among}
use Rattle.mt_faults.specs.declared.before.Passed.{Passed}
use Rattle.mt_faults.specs.Registered.{PassesIds}
use Rattle.mt_faults.specs.Seen.{placed_left}
use Rattle.mt_faults.proofs.before.Passed.with.Given as goal

-- what passes the ids that have yet to come passes all
abbrev pub invariant-loop-field : goal.invariant-loop-field
invariant-loop-field l = (new : Passed) → PassesIds l.table l.passed new (ids_among l.rules (placed_left l.field-iterator)) → PassesIds l.table l.fn.self new (ids_among l.rules (placed_left l.fn.fields))
