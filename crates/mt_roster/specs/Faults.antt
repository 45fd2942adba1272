-- What an error of the roster says of a file.
use Rattle.std.specs.Prelude.{◌≡◌, ◌≤◌, length, Result, Err}
use Rattle.mt_terms.specs.Market.{Registered}
use Rattle.mt_terms.specs.Registration.Faults.{Fault}
use Rattle.mt_roster.specs.declared.fault.RosterError.{RosterError}
use Rattle.mt_roster.specs.declared.fault.RosterError.TheVariants as errors
use Rattle.mt_records.specs.declared.first_fault.FirstFault.{FirstFault}
use Rattle.mt_records.specs.declared.first_fault.FirstFault.TheVariants as refusals

-- a fault is the file's first one, and want of memory says nothing of the file
abbrev pub Tells : RosterError → Result Registered Fault → Type 0
Tells (errors.Fault f) market = market ≡ Err (record { code = f.code; row = f.row; id = f.id })
Tells errors.Memory market = Unit {0}

-- a refusal as an error: the same fault, with the bytes of its id, or want of memory
abbrev pub IsErrorOf : FirstFault → RosterError → Type 0
IsErrorOf (refusals.Fault f) error = error ≡ errors.Fault (record { code = f.code; row = f.row; id = f.id.now })
IsErrorOf refusals.Memory error = error ≡ errors.Memory

-- a refusal whose id, if it has one, fits an id text
abbrev pub HasShortId : FirstFault → Type 0
HasShortId (refusals.Fault f) = length f.id.now ≤ 64
HasShortId refusals.Memory = Unit {0}
