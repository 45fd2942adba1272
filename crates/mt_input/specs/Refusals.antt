-- Why a file is refused: its first fault, a failed read, or want of memory.
use Rattle.std.specs.Prelude.{◌≡◌, ◌≢◌, ◌<◌, ℕ, List, [], length, Option, Result, Ok, Err, IfSome}
use Rattle.mt_terms.specs.Registration.Faults.{Fault}
use Rattle.mt_terms.specs.declared.codes.TheConstants.{OUT_OF_MEMORY, READ_FAULT, TOO_LARGE}
use Rattle.mt_terms.specs.declared.refusal.Refusal.{Refusal}
use Rattle.mt_input.specs.Files.{most_bytes}
use Rattle.mt_input.specs.Left.{OfLeft}

-- a refusal as the fault of a file
abbrev pub fault_of : Refusal → Fault
fault_of e = record { code = e.code; row = e.row; id = e.id }

-- the code with which a step ends, by the refusal that its error holds: 0 if it isn't refused
abbrev pub code_by : {X E : Type 0} → (E → Refusal) → Result X E → ℕ
code_by refusal (Ok x) = 0
code_by refusal (Err e) = (refusal e).code

-- the code with which a step ends whose error is a refusal
abbrev pub code_of : {X : Type 0} → Result X Refusal → ℕ
code_of result = code_by (λ (e : Refusal). e) result

-- a refusal with this code names neither a record nor an id
abbrev pub NamesNone : ℕ → Refusal → Type 0
NamesNone code e = e.code ≡ code → (e.row ≡ 0) × (e.id ≡ [])

-- The bytes of a file can't be had: there are too many of them, or else memory ran out or a read failed.
pub record CannotRead (left : Option (List ℕ)) (e : Refusal) : Type 0 where
  pub no_record : e.row ≡ 0
  pub no_id : e.id ≡ []
  pub too_large : e.code ≢ OUT_OF_MEMORY → e.code ≢ READ_FAULT → (e.code ≡ TOO_LARGE) × IfSome left (λ bytes. most_bytes < length bytes)

-- A refusal of what the bytes of a file are: their first fault, or want of memory. No failed read made it.
pub record IsRefusalIn {X : Type 0} (is : Result X Fault) (e : Refusal) : Type 0 where
  pub reads_did : e.code ≢ READ_FAULT
  pub memory : NamesNone OUT_OF_MEMORY e
  pub fault : e.code ≢ OUT_OF_MEMORY → is ≡ Err (fault_of e)

-- A refusal of what a reader had left: the first fault of those bytes, a failed read, or want of memory.
pub record IsRefusalOf {X : Type 0} (left : Option (List ℕ)) (in_bytes : List ℕ → Result X Fault) (e : Refusal) : Type 0 where
  pub read : NamesNone READ_FAULT e
  pub memory : NamesNone OUT_OF_MEMORY e
  pub fault : e.code ≢ OUT_OF_MEMORY → e.code ≢ READ_FAULT → OfLeft left (λ bytes. in_bytes bytes ≡ Err (fault_of e))
