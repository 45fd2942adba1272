-- What a step of the first pass does to a register, and what the whole pass gives.
use Rattle.std.specs.Prelude.{◌≡◌, ℕ, ◌+◌, List, ◌∷◌, Result, Ok, Err}
use Rattle.mt_terms.specs.Registration.Ids.{Bytes}
use Rattle.mt_terms.specs.Registration.Faults as faults
use Rattle.mt_terms.specs.Registration.Records as model
use Rattle.mt_terms.specs.Registration.Passes.{Numbered, numbered_from, first_pass}
use Rattle.mt_records.specs.declared.first_fault.FirstFault.{FirstFault}
use Rattle.mt_passes.specs.declared.register.Register.{Register}
use Rattle.mt_records.specs.Refusals.{Refuses}
use Rattle.mt_passes.specs.Registers.{records_seen, IsRegister}

-- After a row the pass goes on from the new register, or it ends with the fault that was returned, whatever follows.
abbrev pub Reads : {Y : Type 0} → model.Rules → Register → Register → Numbered (List Bytes) → Result Y FirstFault → Type 0
Reads rules old new row (Ok _) =
    IsRegister new × ((rest : List (Numbered (List Bytes))) → first_pass rules (records_seen old) (row ∷ rest) ≡ first_pass rules (records_seen new) rest)
Reads rules old new row (Err e) = (rest : List (Numbered (List Bytes))) → Refuses e (first_pass rules (records_seen old) (row ∷ rest))

-- The same of each row that this record is taken from.
abbrev pub ReadsRecord : {Y : Type 0} → model.Rules → Register → Register → ℕ → model.Record → Result Y FirstFault → Type 0
ReadsRecord rules old new n r result = (fields : List Bytes) → model.record_of rules fields ≡ Ok r → Reads rules old new (n, fields) result

-- The same of a row with this number, which may have no field.
abbrev pub ReadsRow : {Y : Type 0} → model.Rules → Register → Register → ℕ → List Bytes → Result Y FirstFault → Type 0
ReadsRow rules old new n row (Ok _) =
    IsRegister new
    × ((rest : List (List Bytes)) → first_pass rules (records_seen old) (numbered_from n (row ∷ rest)) ≡ first_pass rules (records_seen new) (numbered_from (n + 1) rest))
ReadsRow rules old new n row (Err e) = (rest : List (List Bytes)) → Refuses e (first_pass rules (records_seen old) (numbered_from n (row ∷ rest)))

-- What the whole pass gives, with the register after it.
abbrev pub GivesRegister : {Y : Type 0} → Register → Result Y FirstFault → Result (List (Numbered model.Record)) faults.Fault → Type 0
GivesRegister new (Ok _) defined = IsRegister new × (defined ≡ Ok (records_seen new))
GivesRegister new (Err e) defined = Refuses e defined
