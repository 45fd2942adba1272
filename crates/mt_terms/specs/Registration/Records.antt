-- What each record of a file says by itself, or its fault. (This project's own format.)
use Rattle.std.specs.Prelude.{ℕ, Bool, true, false, ◌||◌, ◌&&◌, List, [], ◌∷◌, map, Option, Some, None, option_map, ok_or, Result, Ok, Err, codes, bytes_eq, if◌then◌else◌}
use Rattle.std.specs.List.{list_all}
use Rattle.mt_terms.specs.declared.limits.Limits.{Limits}
use Rattle.mt_terms.specs.declared.limits.TheConstants.{LIMITS, LIMITS_2}
use Rattle.mt_terms.specs.Registration.Ids.{Bytes, is_dash, is_id, quota_of}
use Rattle.mt_terms.specs.Registration.Faults.{RecordFault, record_fault, record_fault_alone}
use Rattle.mt_terms.specs.declared.codes.TheConstants.{UNKNOWN_KIND, FIELD_COUNT, BAD_ID, BAD_QUOTA}

-- what a version of the format allows: the limits, whether rows may be withdrawn, and whether one of the
-- two ids of a pair may be `-`
pub record Rules : Type 0 where
  pub limits : Limits
  pub withdrawals : Bool
  pub half_pairs : Bool

abbrev pub version_1 : Rules
version_1 = record { limits = LIMITS; withdrawals = false; half_pairs = false }

abbrev pub version_2 : Rules
version_2 = record { limits = LIMITS_2; withdrawals = true; half_pairs = true }

-- the version that a record names: it is exactly `match`, `1` or `match`, `2`
abbrev pub rules_of : List Bytes → Option Rules
rules_of (word ∷ number ∷ []) =
    if bytes_eq word (codes "match") && bytes_eq number (codes "1") then Some version_1
    else if bytes_eq word (codes "match") && bytes_eq number (codes "2") then Some version_2
    else None
rules_of _ = None

-- what is registered under an id of its own
pub data Kind : Type 0 where
  OfProgram : Kind
  OfApplicant : Kind
  OfCouple : Kind

-- a pair as a couple writes it: the program of each member, or none
abbrev pub IdPair : Type 0
IdPair = Option Bytes × Option Bytes

-- A record is one of four. A program has its quota and its list of applicants. An applicant has its list of programs.
-- A couple has its two members and its list of pairs. A withdrawal has what it withdraws.
pub data Record : Type 0 where
  ProgramRecord : (id : Bytes) (quota : ℕ) (list : List Bytes) → Record
  ApplicantRecord : (id : Bytes) (list : List Bytes) → Record
  CoupleRecord : (id first second : Bytes) (pairs : List IdPair) → Record
  WithdrawRecord : (kind : Kind) (id : Bytes) → Record

-- the kind of record that a word names, if it names one
abbrev pub kind_of : Bytes → Option Kind
kind_of word =
    if bytes_eq word (codes "program") then Some OfProgram
    else if bytes_eq word (codes "applicant") then Some OfApplicant
    else if bytes_eq word (codes "couple") then Some OfCouple
    else None

-- whether each of these fields is an id by the rules of a version
abbrev pub are_ids : Rules → List Bytes → Bool
are_ids rules fields = list_all (is_id rules.limits.id_bytes) fields

-- the fields two by two, if their number is even
abbrev pub two_by_two : List Bytes → Option (List (Bytes × Bytes))
two_by_two [] = Some []
two_by_two (x ∷ []) = None
two_by_two (x ∷ y ∷ fields) = option_map (λ ps. (x, y) ∷ ps) (two_by_two fields)

-- whether two fields are a pair: two ids, or one id and one `-` if the version allows it
abbrev pub is_pair : Rules → Bytes × Bytes → Bool
is_pair rules p = (an_id p.0 && an_id p.1) || (rules.half_pairs && ((an_id p.0 && is_dash p.1) || (is_dash p.0 && an_id p.1)))
  where
    an_id : Bytes → Bool
    an_id field = is_id rules.limits.id_bytes field

-- the pair that two fields write, in which a `-` is no place
abbrev pub pair_of : Bytes × Bytes → IdPair
pair_of p = (place p.0, place p.1)
  where
    place : Bytes → Option Bytes
    place field = if is_dash field then None else Some field

-- a record by the fields after its first, for each kind of record: its faults in the order of their codes
abbrev pub program_record : Rules → List Bytes → Result Record RecordFault
program_record rules (id ∷ quota ∷ list) =
    if are_ids rules (id ∷ list) then ok_or (option_map (λ n. ProgramRecord id n list) (quota_of quota)) (record_fault BAD_QUOTA id)
    else Err (record_fault_alone BAD_ID)
program_record rules _ = Err (record_fault_alone FIELD_COUNT)

abbrev pub applicant_record : Rules → List Bytes → Result Record RecordFault
applicant_record rules (id ∷ list) = if are_ids rules (id ∷ list) then Ok (ApplicantRecord id list) else Err (record_fault_alone BAD_ID)
applicant_record rules [] = Err (record_fault_alone FIELD_COUNT)

abbrev pub couple_by_pairs : Rules → Bytes → Bytes → Bytes → Option (List (Bytes × Bytes)) → Result Record RecordFault
couple_by_pairs rules id a b None = Err (record_fault_alone FIELD_COUNT)
couple_by_pairs rules id a b (Some pairs) =
    if are_ids rules (id ∷ a ∷ b ∷ []) && list_all (is_pair rules) pairs then Ok (CoupleRecord id a b (map pair_of pairs))
    else Err (record_fault_alone BAD_ID)

abbrev pub couple_record : Rules → List Bytes → Result Record RecordFault
couple_record rules (id ∷ a ∷ b ∷ fields) = couple_by_pairs rules id a b (two_by_two fields)
couple_record rules _ = Err (record_fault_alone FIELD_COUNT)

-- a withdrawal by its kind, if its word names one, and by the fields after that word
abbrev pub withdraw_by_kind : Rules → Option Kind → List Bytes → Result Record RecordFault
withdraw_by_kind rules None fields = Err (record_fault_alone UNKNOWN_KIND)
withdraw_by_kind rules (Some kind) (id ∷ []) = if are_ids rules (id ∷ []) then Ok (WithdrawRecord kind id) else Err (record_fault_alone BAD_ID)
withdraw_by_kind rules (Some kind) _ = Err (record_fault_alone FIELD_COUNT)

-- a withdrawal by the fields after its first, which are the kind and the id of what it withdraws; or its
-- first fault
abbrev pub withdraw_record : Rules → List Bytes → Result Record RecordFault
withdraw_record rules [] = Err (record_fault_alone FIELD_COUNT)
withdraw_record rules (word ∷ fields) = withdraw_by_kind rules (kind_of word) fields

-- a record by its first field: a withdrawal, or else one of a kind
abbrev pub record_by_kind : Rules → Option Kind → List Bytes → Result Record RecordFault
record_by_kind rules (Some OfProgram) fields = program_record rules fields
record_by_kind rules (Some OfApplicant) fields = applicant_record rules fields
record_by_kind rules (Some OfCouple) fields = couple_record rules fields
record_by_kind rules None fields = Err (record_fault_alone UNKNOWN_KIND)

-- a record by all its fields, or its first fault if it is judged by itself. It has at least one field
abbrev pub record_of : Rules → List Bytes → Result Record RecordFault
record_of rules [] = Err (record_fault_alone UNKNOWN_KIND)
record_of rules (word ∷ fields) =
    if rules.withdrawals && bytes_eq word (codes "withdraw") then withdraw_record rules fields
    else record_by_kind rules (kind_of word) fields
