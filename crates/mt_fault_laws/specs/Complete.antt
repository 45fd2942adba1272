-- That no fault of these kinds is passed over: each has its fault among all faults, with the number of its record.
use Rattle.std.specs.Prelude.{◌≡◌, ℕ, List, [], ◌∷◌, ◌++◌, Contains, Err, IsTrue, IsFalse, flat_map}
use Rattle.mt_terms.specs.declared.codes.TheConstants.{DUPLICATE_ENTRY, UNKNOWN_APPLICANT, UNKNOWN_PROGRAM, NOT_REGISTERED}
use Rattle.mt_terms.specs.Registration.Ids.{Bytes, has_id}
use Rattle.mt_terms.specs.Registration.Faults.{RecordFault}
use Rattle.mt_terms.specs.Registration.Passes.{Numbered, contents}
use Rattle.mt_terms.specs.Registration.Records.{Rules, Kind, OfProgram, OfApplicant, OfCouple, record_of}
use Rattle.mt_fault_terms.specs.Faults.{Placed, FieldFault, fault_of}
use Rattle.mt_fault_terms.specs.Parts.{Registers, Withdraws, Parts, parts_of, all_own_ids, all_applicants}
use Rattle.mt_fault_terms.specs.OfRecord.{is_id_field}
use Rattle.mt_fault_terms.specs.OfFile.{all_parts, faults_under}

-- a file's records: some before the one with number n, and some after it
abbrev pub Rows : Type 0
Rows = List (Numbered (List Bytes))

-- a record that cannot be read by itself has a fault with its number, with the code that a match names
abbrev pub UnreadRecordsHaveFaults : Type 0
UnreadRecordsHaveFaults =
    (rules : Rules) (before : Rows) (n : ℕ) (fields : List Bytes) (after : Rows) (named : RecordFault) → record_of rules fields ≡ Err named
    → (fault : FieldFault) × (fault.code ≡ named.0) × Contains (faults_under rules (before ++ (n, fields) ∷ after)) (n, fault)

-- that a field has its fault, if it names something that no record registers
pub record HaveFaults (rules : Rules) (all : List Parts) (parts : Parts) (field : Placed) (found : FieldFault → Type 0) : Type 0 where
  pub of_program : parts.form ≡ Registers OfProgram → Contains parts.list field → IsFalse (has_id (all_applicants rules all) field.1) → found (fault_of UNKNOWN_APPLICANT field)
  pub of_applicant : parts.form ≡ Registers OfApplicant → Contains parts.list field → IsFalse (has_id (all_own_ids rules OfProgram all) field.1) → found (fault_of UNKNOWN_PROGRAM field)
  pub of_couple : parts.form ≡ Registers OfCouple → Contains (flat_map (λ pair. pair.0 ∷ pair.1 ∷ []) parts.pairs) field → IsFalse (has_id (all_own_ids rules OfProgram all) field.1)
      → found (fault_of UNKNOWN_PROGRAM field)
  pub of_withdrawal : (kind : Kind) → parts.form ≡ Withdraws kind → Contains parts.names field → IsFalse (has_id (all_own_ids rules kind all) field.1) → found (fault_of NOT_REGISTERED field)

-- an entry that is an id, which no record registers, has its fault: of a program, of a single, of a couple, and of a withdrawal
abbrev pub UnknownEntriesHaveFaults : Type 0
UnknownEntriesHaveFaults = (rules : Rules) (before : Rows) (n : ℕ) (fields : List Bytes) (after : Rows) (field : Placed) → IsTrue (is_id_field rules field)
    → HaveFaults rules (all_parts rules (before ++ (n, fields) ∷ after)) (parts_of rules fields) field (λ fault. Contains (faults_under rules (before ++ (n, fields) ∷ after)) (n, fault))

-- an entry of a list that stands in it before has its fault
abbrev pub RepeatedEntriesHaveFaults : Type 0
RepeatedEntriesHaveFaults =
    (rules : Rules) (before : Rows) (n : ℕ) (fields : List Bytes) (after : Rows) (earlier : List Placed) (field : Placed) (later : List Placed)
    → (parts_of rules fields).list ≡ earlier ++ field ∷ later → IsTrue (is_id_field rules field) → IsTrue (has_id (contents earlier) field.1)
    → Contains (faults_under rules (before ++ (n, fields) ∷ after)) (n, fault_of DUPLICATE_ENTRY field)
