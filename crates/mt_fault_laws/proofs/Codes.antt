-- The codes of faults: those of the first pass of a match are below those of ids that no record registers.
use Rattle.std.proofs.Common.{◌≡◌, ℕ, Bool, true, false, not, ◌&&◌, nat_lt, List, [], ◌∷◌, ◌++◌, map, Option, Some, None, refl, length}
use Rattle.std.specs.Prelude.{bytes_eq, codes, find, flat_map, if◌then◌else◌, is_some}
use Rattle.std.specs.List.{list_all, list_any}
use Rattle.std.proofs.lemmas.Bool.{and_parts, and_from, not-true}
use Rattle.std.proofs.lemmas.List.Folds.{list_all-append}
use Rattle.mt_terms.specs.declared.codes.TheConstants.{BAD_ID, DUPLICATE_ID, DUPLICATE_ENTRY, TOO_MANY, UNKNOWN_APPLICANT, UNKNOWN_PROGRAM, NOT_REGISTERED}
use Rattle.mt_terms.specs.Registration.Ids.{Bytes, quota_of}
use Rattle.mt_terms.specs.Registration.Records.{Rules, Kind, OfProgram, OfApplicant, OfCouple, kind_of, is_pair, pair_of}
use Rattle.mt_terms.specs.Registration.Passes.{is_same_pair}
use Rattle.mt_fault_terms.specs.Faults.{Placed, FieldFault, FileFault, fault_of, fault_alone, placed_from}
use Rattle.mt_fault_terms.specs.Parts.{Form, Registers, Withdraws, Unknown, Parts, PlacedPair, miscounted, withdrawal_by_kind, withdraw_parts, parts_by_kind, parts_of, applicants_among, entries_among, all_own_ids, all_applicants, all_withdrawn, all_entries}
use Rattle.mt_fault_terms.specs.OfRecord.{alone_at, bad_fields, quota_faults, own_faults, found_among, missing_among, members_before, registered_faults, repeats_after, shown_of_pair, pair_repeats_after, passes, id_among, repeat_faults, limit_faults, unknown_faults, first_faults}
use Rattle.mt_fault_laws.specs.Accepted.{is_of_first_pass}
use Rattle.mt_fault_laws.proofs.Reading.{both}

-- whether a fault of a record is of the first pass
abbrev pub is_first : FieldFault → Bool
is_first fault = nat_lt fault.code UNKNOWN_APPLICANT

abbrev all_first : List FieldFault → Bool
all_first faults = list_all is_first faults

abbrev all_last : List FieldFault → Bool
all_last faults = list_all (λ fault. not (is_first fault)) faults

-- lists one after another
both_first : (xs ys : List FieldFault) → all_first xs ≡ true → all_first ys ≡ true → all_first (xs ++ ys) ≡ true
both_first xs ys h k = rw (list_all-append, h, k) refl

map_all : {X : Type 0} (test : FieldFault → Bool) (f : X → FieldFault) (h : (x : X) → test (f x) ≡ true) (xs : List X) → list_all test (map f xs) ≡ true
map_all test f h [] = refl
map_all test f h (x ∷ xs) = and_from _ _ (h x) (map_all test f h xs)

-- the parts of a record have faults of the first pass alone
miscounted_first : (b : Bool) → all_first (miscounted b) ≡ true
miscounted_first true = refl
miscounted_first false = refl

withdrawal_first : (kind : Option Kind) (fields : List Placed) → all_first (withdrawal_by_kind kind fields).faults ≡ true
withdrawal_first None fields = refl
withdrawal_first (Some kind) fields = miscounted_first _

withdraw_first : (fields : List Placed) → all_first (withdraw_parts fields).faults ≡ true
withdraw_first [] = refl
withdraw_first (word ∷ fields) = withdrawal_first (kind_of word.1) fields

kind_first : (kind : Option Kind) (fields : List Placed) → all_first (parts_by_kind kind fields).faults ≡ true
kind_first (Some OfProgram) fields = miscounted_first _
kind_first (Some OfApplicant) fields = miscounted_first _
kind_first (Some OfCouple) fields = miscounted_first _
kind_first None fields = refl

parts_first : (rules : Rules) (fields : List Bytes) → all_first (parts_of rules fields).faults ≡ true
parts_first rules [] = refl
parts_first rules (word ∷ fields) = by (rules.withdrawals && bytes_eq word (codes "withdraw"))
  where
    by : (b : Bool) → all_first (if b then withdraw_parts (placed_from 2 fields) else parts_by_kind (kind_of word) (placed_from 2 fields)).faults ≡ true
    by true = withdraw_first (placed_from 2 fields)
    by false = kind_first (kind_of word) (placed_from 2 fields)

-- a limit that is passed, by a count before a record and by that of the record
abbrev pub limit_fault : Rules → Parts → (limit was more : ℕ) → List FieldFault
limit_fault rules parts limit was more = if passes limit was more then record { code = TOO_MANY; field = 0; id = id_among rules parts.names } ∷ [] else []

module _ (rules : Rules) where
  quota_first : (parts : Parts) → all_first (quota_faults rules parts) ≡ true
  quota_first parts = by parts.quota
    where
      tested : (b : Bool) (fault : FieldFault) → is_first fault ≡ true → all_first ((if b then [] else fault ∷ []) ++ []) ≡ true
      tested true fault h = refl
      tested false fault h = and_from _ _ h refl

      by : (quota : Option Placed) → all_first (quota_faults rules (record parts { quota = quota })) ≡ true
      by None = refl
      by (Some field) = tested (is_some (quota_of field.1)) _ refl

  found_first : (code : ℕ) (ids : List Bytes) (fields : List Placed) → nat_lt code UNKNOWN_APPLICANT ≡ true → all_first (found_among rules code ids fields) ≡ true
  found_first code ids fields h = map_all is_first (fault_of code) (λ field. h) _

  missing_last : (code : ℕ) (ids : List Bytes) (fields : List Placed) → not (nat_lt code UNKNOWN_APPLICANT) ≡ true → all_last (missing_among rules code ids fields) ≡ true
  missing_last code ids fields h = map_all (λ fault. not (is_first fault)) (fault_of code) (λ field. h) _

  members_first : (ids : List Bytes) (fields : List Placed) → all_first (members_before rules ids fields) ≡ true
  members_first ids [] = refl
  members_first ids (field ∷ fields) =
      both_first (found_among rules DUPLICATE_ID ids (field ∷ [])) (members_before rules (ids ++ field.1 ∷ []) fields) (found_first DUPLICATE_ID ids (field ∷ []) refl) (members_first (ids ++ field.1 ∷ []) fields)

  registered_first : (before : List Parts) (form : Form) (parts : Parts) → all_first (registered_faults rules before (record parts { form = form })) ≡ true
  registered_first before (Registers OfProgram) parts = found_first DUPLICATE_ID (all_own_ids rules OfProgram before) parts.names refl
  registered_first before (Registers OfApplicant) parts = found_first DUPLICATE_ID (all_applicants rules before) parts.names refl
  registered_first before (Registers OfCouple) parts = by parts.names
    where
      by : (names : List Placed) → all_first (registered_faults rules before (record parts { form = Registers OfCouple; names = names })) ≡ true
      by [] = refl
      by (own ∷ members) =
          both_first (found_among rules DUPLICATE_ID (all_own_ids rules OfCouple before) (own ∷ [])) (members_before rules (all_applicants rules before) members) (found_first DUPLICATE_ID (all_own_ids rules OfCouple before) (own ∷ []) refl) (members_first (all_applicants rules before) members)
  registered_first before (Withdraws kind) parts = refl
  registered_first before Unknown parts = refl

  repeats_first : (before : List Bytes) (fields : List Placed) → all_first (repeats_after rules before fields) ≡ true
  repeats_first before [] = refl
  repeats_first before (field ∷ fields) =
      both_first (found_among rules DUPLICATE_ENTRY before (field ∷ [])) (repeats_after rules (before ++ field.1 ∷ []) fields) (found_first DUPLICATE_ENTRY before (field ∷ []) refl) (repeats_first (before ++ field.1 ∷ []) fields)

  tested_first : (b : Bool) (fault : FieldFault) → is_first fault ≡ true → all_first (if b then fault ∷ [] else []) ≡ true
  tested_first true fault h = and_from _ _ h refl
  tested_first false fault h = refl

  pair_repeats_first : (before : List (Bytes × Bytes)) (pairs : List PlacedPair) → all_first (pair_repeats_after rules before pairs) ≡ true
  pair_repeats_first before [] = refl
  pair_repeats_first before (pair ∷ pairs) =
      let fields : Bytes × Bytes = (pair.0.1, pair.1.1) in
      let stands : Bool = is_pair rules fields && list_any (λ (other : Bytes × Bytes). is_same_pair (pair_of fields) (pair_of other)) before in
      let fault : FieldFault = record { code = DUPLICATE_ENTRY; field = pair.0.0; id = shown_of_pair pair } in
      both_first (if stands then fault ∷ [] else []) (pair_repeats_after rules (before ++ fields ∷ []) pairs) (tested_first stands fault refl) (pair_repeats_first (before ++ fields ∷ []) pairs)

  lists_first : (parts : Parts) (others : List FieldFault) → all_first others ≡ true → all_first (repeats_after rules [] parts.list ++ pair_repeats_after rules [] parts.pairs ++ others) ≡ true
  lists_first parts others h =
      both_first (repeats_after rules [] parts.list ++ pair_repeats_after rules [] parts.pairs) others
      (both_first (repeats_after rules [] parts.list) (pair_repeats_after rules [] parts.pairs) (repeats_first [] parts.list) (pair_repeats_first [] parts.pairs)) h

  repeat_first : (before : List Parts) (form : Form) (parts : Parts) → all_first (repeat_faults rules before (record parts { form = form })) ≡ true
  repeat_first before (Registers kind) parts = lists_first parts [] refl
  repeat_first before (Withdraws kind) parts =
      lists_first parts (found_among rules DUPLICATE_ENTRY (all_withdrawn rules kind before) parts.names) (found_first DUPLICATE_ENTRY (all_withdrawn rules kind before) parts.names refl)
  repeat_first before Unknown parts = lists_first parts [] refl

  limit_first : (before : List Parts) (parts : Parts) → all_first (limit_faults rules before parts) ≡ true
  limit_first before parts = both_first (one ++ two ++ three) four (both_first (one ++ two) three (both_first one two one_first two_first) three_first) four_first
    where
      first : (limit was more : ℕ) → all_first (limit_fault rules parts limit was more) ≡ true
      first limit was more = tested_first (passes limit was more) (record { code = TOO_MANY; field = 0; id = id_among rules parts.names }) refl

      one : List FieldFault
      one = limit_fault rules parts rules.limits.applicants (length (all_applicants rules before)) (length (applicants_among rules parts))

      two : List FieldFault
      two = limit_fault rules parts rules.limits.programs (length (all_own_ids rules OfProgram before)) (length (all_own_ids rules OfProgram (parts ∷ [])))

      three : List FieldFault
      three = limit_fault rules parts rules.limits.couples (length (all_own_ids rules OfCouple before)) (length (all_own_ids rules OfCouple (parts ∷ [])))

      four : List FieldFault
      four = limit_fault rules parts rules.limits.entries (all_entries before) (entries_among parts)

      one_first : all_first one ≡ true
      one_first = first rules.limits.applicants (length (all_applicants rules before)) (length (applicants_among rules parts))

      two_first : all_first two ≡ true
      two_first = first rules.limits.programs (length (all_own_ids rules OfProgram before)) (length (all_own_ids rules OfProgram (parts ∷ [])))

      three_first : all_first three ≡ true
      three_first = first rules.limits.couples (length (all_own_ids rules OfCouple before)) (length (all_own_ids rules OfCouple (parts ∷ [])))

      four_first : all_first four ≡ true
      four_first = first rules.limits.entries (all_entries before) (entries_among parts)

  own_first : (parts : Parts) → all_first parts.faults ≡ true → all_first (own_faults rules parts) ≡ true
  own_first parts h =
      both_first (parts.faults ++ alone_at BAD_ID (bad_fields rules parts)) (quota_faults rules parts)
      (both_first parts.faults (alone_at BAD_ID (bad_fields rules parts)) h (map_all is_first (λ (field : Placed). fault_alone BAD_ID field.0) (λ field. refl) (bad_fields rules parts))) (quota_first parts)

  pub first_are_first : (before : List Parts) (fields : List Bytes) → all_first (first_faults rules before (parts_of rules fields)) ≡ true
  first_are_first before fields =
      let parts : Parts = parts_of rules fields in
      let own : List FieldFault = own_faults rules parts in
      let registered : List FieldFault = registered_faults rules before parts in
      let repeats : List FieldFault = repeat_faults rules before parts in
      both_first (own ++ registered ++ repeats) (limit_faults rules before parts)
      (both_first (own ++ registered) repeats (both_first own registered (own_first parts (parts_first rules fields)) (registered_first before parts.form parts)) (repeat_first before parts.form parts))
      (limit_first before parts)

  unknown_last : (all : List Parts) (form : Form) (parts : Parts) → all_last (unknown_faults rules all (record parts { form = form })) ≡ true
  unknown_last all (Registers OfProgram) parts = missing_last UNKNOWN_APPLICANT (all_applicants rules all) parts.list refl
  unknown_last all (Registers OfApplicant) parts = missing_last UNKNOWN_PROGRAM (all_own_ids rules OfProgram all) parts.list refl
  unknown_last all (Registers OfCouple) parts = missing_last UNKNOWN_PROGRAM (all_own_ids rules OfProgram all) (flat_map both parts.pairs) refl
  unknown_last all (Withdraws kind) parts = missing_last NOT_REGISTERED (all_own_ids rules kind all) parts.names refl
  unknown_last all Unknown parts = refl

-- so none of the ids that no record registers is found by the first pass
find_none : (n : ℕ) (faults : List FieldFault) (rest : List FileFault) → all_last faults ≡ true → find is_of_first_pass (map (λ (fault : FieldFault). (n, fault)) faults ++ rest) ≡ find is_of_first_pass rest
find_none n [] rest h = refl
find_none n (fault ∷ faults) rest h =
    let p : (not (is_first fault) ≡ true) × (all_last faults ≡ true) = and_parts (not (is_first fault)) _ h in
    rw (not-true (is_first fault) p.0) (find_none n faults rest p.1)

pub find_past : (rules : Rules) (all : List Parts) (parts : Parts) (n : ℕ) (rest : List FileFault)
    → find is_of_first_pass (map (λ (fault : FieldFault). (n, fault)) (unknown_faults rules all parts) ++ rest) ≡ find is_of_first_pass rest
find_past rules all parts n rest = find_none n (unknown_faults rules all parts) rest (unknown_last rules all parts.form parts)
