-- What the reading of a file gives.
use Rattle.std.specs.Prelude.{ℕ, Err}
use Rattle.mt_terms.specs.Market.{Registered}
use Rattle.mt_terms.specs.Registration.Faults.{fault_at, record_fault_alone}
use Rattle.mt_terms.specs.declared.codes.TheConstants.{NO_VERSION}
use Rattle.mt_records.specs.Refusals.{Refuses}
use Rattle.mt_records.specs.declared.first_fault.FirstFault.{FirstFault}

-- a value as itself
abbrev pub same : {X : Type 0} → X → X
same x = x

-- the refusal of a file that names no version, at this record
abbrev pub NamesNoVersion : FirstFault → ℕ → Type 0
NamesNoVersion refusal row = Refuses {Y = Registered} refusal (Err (fault_at row (record_fault_alone NO_VERSION)))
