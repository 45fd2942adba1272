-- What an error says of the records of a match.
use Rattle.std.specs.Prelude.{◌≡◌, Result, Err}
use Rattle.mt_terms.specs.Registration.Faults.{Fault}
use Rattle.mt_match_file.specs.declared.fault.MatchError.{MatchError}
use Rattle.mt_match_file.specs.declared.fault.MatchError.TheVariants as errors

-- a fault is the first one of the records, and want of memory says nothing of them
abbrev pub Tells : {X : Type 0} → MatchError → Result X Fault → Type 0
Tells (errors.Fault f) submitted = submitted ≡ Err (record { code = f.code; row = f.row; id = f.id })
Tells errors.Memory submitted = Unit {0}

-- an error is this fault
abbrev pub IsFault : MatchError → Fault → Type 0
IsFault (errors.Fault f) fault = record { code = f.code; row = f.row; id = f.id } ≡ fault
IsFault errors.Memory fault = ⊥
