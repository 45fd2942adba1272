-- How what a step of the reading gives is seen as the definition's result.
use Rattle.std.specs.Prelude.{◌≡◌, Result, Ok, Err}
use Rattle.mt_terms.specs.Registration.Faults as faults
use Rattle.mt_records.specs.declared.first_fault.Fault.{Fault}
use Rattle.mt_records.specs.declared.first_fault.FirstFault.{FirstFault}
use Rattle.mt_records.specs.declared.first_fault.FirstFault.TheVariants as refusals

-- a fault of a file, as the definition's fault
abbrev pub fault_seen : Fault → faults.Fault
fault_seen f = record { code = f.code; row = f.row; id = f.id.now }

-- A refusal is the fault that the definition gives, unless memory ran out.
abbrev pub Refuses : {Y : Type 0} → FirstFault → Result Y faults.Fault → Type 0
Refuses (refusals.Fault f) defined = defined ≡ Err (fault_seen f)
Refuses refusals.Memory defined = Unit {0}

-- What a step returned, seen by a view, is what the definition gives, unless memory ran out.
abbrev pub Gives : {X Y : Type 0} → (X → Y) → Result X FirstFault → Result Y faults.Fault → Type 0
Gives view (Ok x) defined = defined ≡ Ok (view x)
Gives view (Err e) defined = Refuses e defined
