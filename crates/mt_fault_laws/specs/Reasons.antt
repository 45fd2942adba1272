-- Why each fault of a record is one: by the field at fault, and by what the records before it and all records register.
use Rattle.std.specs.Prelude.{◌≡◌, ◌⊎◌, List, ◌∷◌, ◌++◌, map, All, Contains, None, IsTrue, IsFalse}
use Rattle.std.specs.List.{list_any}
use Rattle.mt_terms.specs.declared.codes.TheConstants.{BAD_ID, BAD_QUOTA, DUPLICATE_ID, DUPLICATE_ENTRY, UNKNOWN_APPLICANT, UNKNOWN_PROGRAM, NOT_REGISTERED}
use Rattle.mt_terms.specs.Registration.Ids.{Bytes, has_id, quota_of}
use Rattle.mt_terms.specs.Registration.Passes.{Numbered, contents, is_same_pair}
use Rattle.mt_terms.specs.Registration.Records.{Rules, Kind, OfProgram, OfApplicant, OfCouple, is_pair, pair_of}
use Rattle.mt_fault_terms.specs.Faults.{Placed, FieldFault, FileFault, placed_from}
use Rattle.mt_fault_terms.specs.Parts.{Registers, Withdraws, Parts, PlacedPair, parts_of, all_own_ids, all_applicants, all_withdrawn}
use Rattle.mt_fault_terms.specs.OfRecord.{is_id_field, shown_of_pair}
use Rattle.mt_fault_terms.specs.OfFile.{all_parts, faults_under}

-- a field of a record, with its number
abbrev pub IsField : List Bytes → Placed → Type 0
IsField fields field = Contains (placed_from 1 fields) field

-- the field at fault is one of the record, and this is so of it
abbrev pub AtField : List Bytes → FieldFault → (Placed → Type 0) → Type 0
AtField fields fault holds = (field : Placed) × IsField fields field × (field.0 ≡ fault.field) × holds field

-- the same of a field that is an id, which is the id at fault
abbrev pub AtId : Rules → List Bytes → FieldFault → (Bytes → Type 0) → Type 0
AtId rules fields fault holds = AtField fields fault (λ field. (field.1 ≡ fault.id) × IsTrue (is_id_field rules field) × holds fault.id)

-- the two fields of a pair without their numbers
abbrev pub unplaced : PlacedPair → Bytes × Bytes
unplaced pair = (pair.0.1, pair.1.1)

-- the own id of a couple that an earlier couple has
abbrev pub IsCoupleBefore : Rules → List Parts → Parts → FieldFault → Type 0
IsCoupleBefore rules before parts fault =
    (own : Placed) × (members : List Placed) × (parts.names ≡ own ∷ members)
    × (fault.field ≡ own.0) × (fault.id ≡ own.1) × IsTrue (is_id_field rules own) × IsTrue (has_id (all_own_ids rules OfCouple before) own.1)

-- a member of a couple that an earlier record registers, or that is the member before it
abbrev pub IsMemberBefore : Rules → List Parts → Parts → FieldFault → Type 0
IsMemberBefore rules before parts fault =
    (own : Placed) × (earlier : List Placed) × (member : Placed) × (later : List Placed) × (parts.names ≡ own ∷ (earlier ++ member ∷ later))
    × (fault.field ≡ member.0) × (fault.id ≡ member.1) × IsTrue (is_id_field rules member)
    × IsTrue (has_id (all_applicants rules before ++ contents earlier) member.1)

-- an entry of a list that stands in it before
abbrev pub IsListedBefore : Rules → Parts → FieldFault → Type 0
IsListedBefore rules parts fault =
    (earlier : List Placed) × (field : Placed) × (later : List Placed) × (parts.list ≡ earlier ++ field ∷ later)
    × (fault.field ≡ field.0) × (fault.id ≡ field.1) × IsTrue (is_id_field rules field) × IsTrue (has_id (contents earlier) field.1)

-- a pair of a list that stands in it before
abbrev pub IsPairedBefore : Rules → Parts → FieldFault → Type 0
IsPairedBefore rules parts fault =
    (earlier : List PlacedPair) × (pair : PlacedPair) × (later : List PlacedPair) × (parts.pairs ≡ earlier ++ pair ∷ later)
    × (fault.field ≡ pair.0.0) × (fault.id ≡ shown_of_pair pair) × IsTrue (is_pair rules (unplaced pair))
    × IsTrue (list_any (λ other. is_same_pair (pair_of (unplaced pair)) (pair_of other)) (map unplaced earlier))

-- what a record withdraws that an earlier one withdraws too
abbrev pub IsWithdrawnBefore : Rules → List Parts → List Bytes → FieldFault → Type 0
IsWithdrawnBefore rules before fields fault =
    (kind : Kind) × ((parts_of rules fields).form ≡ Withdraws kind) × AtId rules fields fault (λ id. IsTrue (has_id (all_withdrawn rules kind before) id))

-- Why a fault of a record is one, by its code. The parts of all records are `all`, and those of the records before it `before`.
pub record HasReason (rules : Rules) (all before : List Parts) (fields : List Bytes) (fault : FieldFault) : Type 0 where
  pub bad_id : fault.code ≡ BAD_ID → AtField fields fault (λ field. IsFalse (is_id_field rules field))
  pub bad_quota : fault.code ≡ BAD_QUOTA → AtField fields fault (λ field. quota_of field.1 ≡ None)
  pub registered_program : fault.code ≡ DUPLICATE_ID → (parts_of rules fields).form ≡ Registers OfProgram
      → AtId rules fields fault (λ id. IsTrue (has_id (all_own_ids rules OfProgram before) id))
  pub registered_applicant : fault.code ≡ DUPLICATE_ID → (parts_of rules fields).form ≡ Registers OfApplicant
      → AtId rules fields fault (λ id. IsTrue (has_id (all_applicants rules before) id))
  pub registered_couple : fault.code ≡ DUPLICATE_ID → (parts_of rules fields).form ≡ Registers OfCouple
      → IsCoupleBefore rules before (parts_of rules fields) fault ⊎ IsMemberBefore rules before (parts_of rules fields) fault
  pub repeated : fault.code ≡ DUPLICATE_ENTRY
      → IsListedBefore rules (parts_of rules fields) fault ⊎ (IsPairedBefore rules (parts_of rules fields) fault ⊎ IsWithdrawnBefore rules before fields fault)
  pub unknown_applicant : fault.code ≡ UNKNOWN_APPLICANT → AtId rules fields fault (λ id. IsFalse (has_id (all_applicants rules all) id))
  pub unknown_program : fault.code ≡ UNKNOWN_PROGRAM → AtId rules fields fault (λ id. IsFalse (has_id (all_own_ids rules OfProgram all) id))
  pub not_registered : fault.code ≡ NOT_REGISTERED
      → (kind : Kind) × ((parts_of rules fields).form ≡ Withdraws kind) × AtId rules fields fault (λ id. IsFalse (has_id (all_own_ids rules kind all) id))

-- a fault of a file with the record at fault, after some records and before others, and the reason for it
pub record IsSo (rules : Rules) (rows : List (Numbered (List Bytes))) (fault : FileFault) : Type 0 where
  pub before : List (Numbered (List Bytes))
  pub fields : List Bytes
  pub after : List (Numbered (List Bytes))
  pub at_record : rows ≡ before ++ (fault.0, fields) ∷ after
  pub reason : HasReason rules (all_parts rules rows) (all_parts rules before) fields fault.1

-- each fault of a file's records is at one of them, and has its reason
abbrev pub FaultsAreSo : Type 0
FaultsAreSo = (rules : Rules) (rows : List (Numbered (List Bytes))) → All (IsSo rules rows) (faults_under rules rows)
