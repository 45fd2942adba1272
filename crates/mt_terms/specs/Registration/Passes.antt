-- The two passes over the records of a file, each of which ends at its first fault. (This project's own format.)
use Rattle.std.specs.Prelude.{ℕ, ◌+◌, Bool, not, ◌||◌, ◌&&◌, nat_lt, List, [], ◌∷◌, ◌++◌, map, length, find, flat_map, Option, Some, None, option_map, option_to_list, Result, Ok, Err, bytes_eq}
use Rattle.std.specs.Bool.{then_some}
use Rattle.std.specs.Option.{option_eq}
use Rattle.mt_terms.specs.declared.limits.Limits.{Limits}
use Rattle.mt_terms.specs.Registration.Ids.{Bytes, has_id, all_differ}
use Rattle.mt_terms.specs.Registration.Faults.{Fault, RecordFault, record_fault, fault_at}
use Rattle.mt_terms.specs.declared.codes.TheConstants.{DUPLICATE_ID, DUPLICATE_ENTRY, TOO_MANY, UNKNOWN_APPLICANT, UNKNOWN_PROGRAM, NOT_REGISTERED}
use Rattle.mt_terms.specs.Registration.Records.{Rules, Record, ProgramRecord, ApplicantRecord, CoupleRecord, WithdrawRecord, OfProgram, OfCouple, IdPair, record_of}
use Rattle.mt_terms.specs.Registration.Rows.{id_of, ids_of, withdrawn, applicant_ids, entry_count}

-- a record with its number in the file
abbrev pub Numbered : Type 0 → Type 0
Numbered X = ℕ × X

-- the records that have a field, each with its number, if the first of all records is record n
abbrev pub numbered_from : ℕ → List (List Bytes) → List (Numbered (List Bytes))
numbered_from n [] = []
numbered_from n ([] ∷ rows) = numbered_from (n + 1) rows
numbered_from n ((word ∷ fields) ∷ rows) = (n, word ∷ fields) ∷ numbered_from (n + 1) rows

-- these without their numbers
abbrev pub contents : {X : Type 0} → List (Numbered X) → List X
contents numbered = map (λ x. x.1) numbered

-- the first of these that there is
abbrev pub first_of : {X : Type 0} → List (Option X) → Option X
first_of [] = None
first_of (Some x ∷ rest) = Some x
first_of (None ∷ rest) = first_of rest

-- the first id of a list that is one of these, and the first that isn't
abbrev pub first_in : List Bytes → List Bytes → Option Bytes
first_in ids list = find (has_id ids) list

abbrev pub first_not_in : List Bytes → List Bytes → Option Bytes
first_not_in ids list = find (λ id. not (has_id ids id)) list

-- the first id of a record, in the order own, A, B, that is registered already
abbrev pub registered_before : List Record → Record → Option Bytes
registered_before before (ProgramRecord id quota list) = first_in (ids_of OfProgram before) (id ∷ [])
registered_before before (ApplicantRecord id list) = first_in (applicant_ids before) (id ∷ [])
registered_before before (CoupleRecord id a b pairs) =
    first_of
    (first_in (ids_of OfCouple before) (id ∷ [])
    ∷ first_in (applicant_ids before) (a ∷ [])
    ∷ first_in (a ∷ applicant_ids before) (b ∷ [])
    ∷ [])
registered_before before (WithdrawRecord kind id) = None

-- whether two pairs name the same for each member
abbrev pub is_same_pair : IdPair → IdPair → Bool
is_same_pair p q = option_eq bytes_eq p.0 q.0 && option_eq bytes_eq p.1 q.1

-- whether a record's list has an id or a pair twice, or the record withdraws what was withdrawn before
abbrev pub says_twice : List Record → Record → Bool
says_twice before (ProgramRecord id quota list) = not (all_differ bytes_eq list)
says_twice before (ApplicantRecord id list) = not (all_differ bytes_eq list)
says_twice before (CoupleRecord id a b pairs) = not (all_differ is_same_pair pairs)
says_twice before (WithdrawRecord kind id) = has_id (withdrawn kind before) id

-- whether the records are more than a version takes
abbrev pub are_too_many : Limits → List Record → Bool
are_too_many limits records =
    nat_lt limits.applicants (length (applicant_ids records)) || nat_lt limits.programs (length (ids_of OfProgram records))
    || nat_lt limits.couples (length (ids_of OfCouple records)) || nat_lt limits.entries (entry_count records)

-- the ids that a pair names
abbrev pub named : IdPair → List Bytes
named p = option_to_list p.0 ++ option_to_list p.1

-- the first id that a record names and that none of all the records registers
abbrev pub unknown_id : List Record → Record → Option RecordFault
unknown_id all (ProgramRecord id quota list) = option_map (record_fault UNKNOWN_APPLICANT) (first_not_in (applicant_ids all) list)
unknown_id all (ApplicantRecord id list) = option_map (record_fault UNKNOWN_PROGRAM) (first_not_in (ids_of OfProgram all) list)
unknown_id all (CoupleRecord id a b pairs) = option_map (record_fault UNKNOWN_PROGRAM) (first_not_in (ids_of OfProgram all) (flat_map named pairs))
unknown_id all (WithdrawRecord kind id) = option_map (record_fault NOT_REGISTERED) (first_not_in (ids_of kind all) (id ∷ []))

-- the first conflict of a record with those before it
abbrev pub first_conflict : Rules → List Record → Record → Option RecordFault
first_conflict rules before r =
    first_of
    (option_map (record_fault DUPLICATE_ID) (registered_before before r)
    ∷ then_some (says_twice before r) (record_fault DUPLICATE_ENTRY (id_of r))
    ∷ then_some (are_too_many rules.limits (before ++ r ∷ [])) (record_fault TOO_MANY (id_of r))
    ∷ [])

-- what comes next, if there is no fault
abbrev pub and_then : {X Y E : Type 0} → Result X E → (X → Result Y E) → Result Y E
and_then (Ok x) next = next x
and_then (Err e) next = Err e

-- this, unless there is a fault
abbrev pub unless : {X E : Type 0} → Option E → X → Result X E
unless None x = Ok x
unless (Some e) x = Err e

-- a record_fault as the fault of record n
abbrev pub at_record : {X : Type 0} → ℕ → Result X RecordFault → Result X Fault
at_record n (Ok x) = Ok x
at_record n (Err c) = Err (fault_at n c)

-- the next record: read by itself, and then in no conflict with those before it
abbrev pub next_record : Rules → List Record → List Bytes → Result Record RecordFault
next_record rules before fields = and_then (record_of rules fields) (λ r. unless (first_conflict rules before r) r)

-- the first pass: each record after those before it, up to the first fault
abbrev pub first_pass : Rules → List (Numbered Record) → List (Numbered (List Bytes)) → Result (List (Numbered Record)) Fault
first_pass rules before [] = Ok before
first_pass rules before (row ∷ rows) =
    and_then (at_record row.0 (next_record rules (contents before) row.1)) (λ r. first_pass rules (before ++ (row.0, r) ∷ []) rows)

-- the second pass: the first record that names an unknown id
abbrev pub second_pass : List (Numbered Record) → Option Fault
second_pass records = first_of (map (λ r. option_map (fault_at r.0) (unknown_id (contents records) r.1)) records)
