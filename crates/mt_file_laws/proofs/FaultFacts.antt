-- Each fault of a file has one of the codes of the table, and its id is empty or an id: one walk over the two passes.
use Rattle.std.proofs.Common.{◌≡◌, ℕ, ◌≤◌, Bool, true, false, not, ◌&&◌, ◌||◌, List, [], ◌∷◌, ◌++◌, map, length, Option, Some, None, Result, Ok, Err, refl, arith, sym, ap, ◌∙◌, cond, nat_le}
use Rattle.std.specs.Prelude.{if◌then◌else◌, codes, bytes_eq, option_map, option_to_list, ok_or, flat_map}
use Rattle.std.specs.Option.{option_map_or}
use Rattle.std.specs.Bool.{then_some}
use Rattle.std.specs.List.{list_all}
use Rattle.std.proofs.lemmas.Bool.{and_parts, and_from}
use Rattle.std.proofs.lemmas.Bool.Decides.{nat_tests}
use Rattle.std.proofs.lemmas.List.{map-append}
use Rattle.std.proofs.lemmas.List.Folds.{list_all-append}
use Rattle.mt_terms.specs.Market.{Registered}
use Rattle.mt_terms.specs.Registration.{market_of_numbered, market_under}
use Rattle.mt_terms.specs.Registration.Ids.{Bytes, is_id, is_dash, quota_of, has_id}
use Rattle.mt_terms.specs.Registration.Faults.{RecordFault, Fault, record_fault, record_fault_alone, fault_at}
use Rattle.mt_terms.specs.declared.codes.TheConstants.{NO_VERSION, BAD_ID, BAD_QUOTA, DUPLICATE_ID, DUPLICATE_ENTRY, TOO_MANY, UNKNOWN_APPLICANT, UNKNOWN_PROGRAM, NOT_REGISTERED}
use Rattle.mt_terms.specs.Registration.Records.{Rules, Record, ProgramRecord, ApplicantRecord, CoupleRecord, WithdrawRecord, Kind, OfProgram, OfApplicant, OfCouple, version_1, version_2, rules_of, are_ids, is_pair, pair_of, two_by_two, record_of, record_by_kind, program_record, applicant_record, couple_record, couple_by_pairs, withdraw_by_kind, withdraw_record, kind_of}
use Rattle.mt_terms.specs.Registration.Rows.{id_of, ids_of, applicant_ids}
use Rattle.mt_terms.specs.Registration.Passes.{Numbered, numbered_from, contents, first_of, first_in, first_not_in, and_then, unless, at_record, are_too_many, says_twice, registered_before, first_conflict, next_record, first_pass, second_pass, unknown_id, named}
use Rattle.mt_terms.specs.Registration.Numbering.{registered}
use Rattle.mt_terms.specs.Text.{is_fault_code, is_none_or_id}
use Rattle.mt_file_laws.specs.Faults.{FaultCodes, FaultIds}
use Rattle.mt_file_laws.proofs.VersionFacts.{id_of_more, second_of_four}

-- a member of a pair that isn't `-` is an id
first_holds : (w e s t : Bool) → ((s && t) || (w && ((s && e) || (false && t)))) ≡ true → s ≡ true
first_holds w e true t k = refl
first_holds true e false t k = cc
first_holds false e false t k = cc

second_holds : (w d s t : Bool) → ((s && t) || (w && ((s && false) || (d && t)))) ≡ true → t ≡ true
second_holds w d s true k = refl
second_holds true true true false k = cc
second_holds true true false false k = cc
second_holds true false true false k = cc
second_holds true false false false k = cc
second_holds false d true false k = cc
second_holds false d false false k = cc

-- what is so of a value, or of the fault in its place
abbrev either : {X E : Type 0} → (X → Bool) → (E → Bool) → Result X E → Bool
either p q (Ok x) = p x
either p q (Err e) = q e

abbrev where_some : {X : Type 0} → (X → Bool) → Option X → Bool
where_some p None = true
where_some p (Some x) = p x

either_next : {X Y E : Type 0} (p : X → Bool) (s : Y → Bool) (q : E → Bool) (o : Result X E) (next : X → Result Y E)
    → either p q o ≡ true → ((x : X) → p x ≡ true → either s q (next x) ≡ true) → either s q (and_then o next) ≡ true
either_next p s q (Ok x) next h k = k x h
either_next p s q (Err e) next h k = h

either_unless : {X E : Type 0} (p : X → Bool) (q : E → Bool) (o : Option E) (x : X) → where_some q o ≡ true → p x ≡ true → either p q (unless o x) ≡ true
either_unless p q None x h k = k
either_unless p q (Some e) x h k = h

some_of_first : {X : Type 0} (q : X → Bool) (xs : List (Option X)) → list_all (where_some q) xs ≡ true → where_some q (first_of xs) ≡ true
some_of_first q [] h = refl
some_of_first q (Some x ∷ xs) h = (and_parts (q x) _ h).0
some_of_first q (None ∷ xs) h = some_of_first q xs h

-- by the rules of one version
module _ (rules : Rules) where
  abbrev an_id : Bytes → Bool
  an_id field = is_id rules.limits.id_bytes field

  abbrev none_or_id : Bytes → Bool
  none_or_id [] = true
  none_or_id (byte ∷ bytes) = an_id (byte ∷ bytes)

  none_or : (field : Bytes) → an_id field ≡ true → none_or_id field ≡ true
  none_or [] h = refl
  none_or (byte ∷ bytes) h = h

  -- whether all that a record names are ids
  abbrev names_ids : Record → Bool
  names_ids (ProgramRecord id quota list) = list_all an_id (id ∷ list)
  names_ids (ApplicantRecord id list) = list_all an_id (id ∷ list)
  names_ids (CoupleRecord id a b pairs) = list_all an_id (id ∷ a ∷ b ∷ []) && list_all an_id (flat_map named pairs)
  names_ids (WithdrawRecord kind id) = an_id id

  -- a record_fault, and a fault, of a known code at an id or none
  abbrev is_record_fault : RecordFault → Bool
  is_record_fault c = is_fault_code c.0 && none_or_id c.1

  abbrev is_fault : Fault → Bool
  is_fault f = is_fault_code f.code && none_or_id f.id

  abbrev fits : Result Record RecordFault → Bool
  fits o = either names_ids is_record_fault o

  if_fits : (b : Bool) (s t : Result Record RecordFault) → (b ≡ true → fits s ≡ true) → fits t ≡ true → fits (if b then s else t) ≡ true
  if_fits true s t h k = h refl
  if_fits false s t h k = k

  program_fits : (fields : List Bytes) → fits (program_record rules fields) ≡ true
  program_fits [] = refl
  program_fits (id ∷ []) = refl
  program_fits (id ∷ quota ∷ list) =
      if_fits (are_ids rules (id ∷ list)) (ok_or (option_map (λ n. ProgramRecord id n list) (quota_of quota)) (record_fault BAD_QUOTA id)) (Err (record_fault_alone BAD_ID))
      (λ h. by (quota_of quota) h) refl
    where
      by : (o : Option ℕ) → list_all an_id (id ∷ list) ≡ true → fits (ok_or (option_map (λ n. ProgramRecord id n list) o) (record_fault BAD_QUOTA id)) ≡ true
      by (Some n) h = h
      by None h = none_or id (and_parts (an_id id) _ h).0

  applicant_fits : (fields : List Bytes) → fits (applicant_record rules fields) ≡ true
  applicant_fits [] = refl
  applicant_fits (id ∷ list) = if_fits (are_ids rules (id ∷ list)) (Ok (ApplicantRecord id list)) (Err (record_fault_alone BAD_ID)) (λ h. h) refl

  pair_fits : (p : Bytes × Bytes) → is_pair rules p ≡ true → list_all an_id (named (pair_of p)) ≡ true
  pair_fits p h = by (is_dash p.0) (is_dash p.1) h
    where
      by : (d e : Bool) → ((an_id p.0 && an_id p.1) || (rules.half_pairs && ((an_id p.0 && e) || (d && an_id p.1)))) ≡ true
          → list_all an_id (option_to_list (cond d None (Some p.0)) ++ option_to_list (cond e None (Some p.1))) ≡ true
      by true true k = refl
      by true false k = let t : an_id p.1 ≡ true = second_holds rules.half_pairs true (an_id p.0) (an_id p.1) k in rw t refl
      by false true k = let s : an_id p.0 ≡ true = first_holds rules.half_pairs true (an_id p.0) (an_id p.1) k in rw s refl
      by false false k =
          let s : an_id p.0 ≡ true = first_holds rules.half_pairs false (an_id p.0) (an_id p.1) k in
          let t : an_id p.1 ≡ true = second_holds rules.half_pairs false (an_id p.0) (an_id p.1) k in
          rw (s, t) refl

  pairs_fit : (ps : List (Bytes × Bytes)) → list_all (is_pair rules) ps ≡ true → list_all an_id (flat_map named (map pair_of ps)) ≡ true
  pairs_fit [] h = refl
  pairs_fit (p ∷ ps) h =
      let q : (is_pair rules p ≡ true) × (list_all (is_pair rules) ps ≡ true) = and_parts (is_pair rules p) _ h in
      rw (list_all-append, pair_fits p q.0, pairs_fit ps q.1) refl

  by_pairs_fits : (id a b : Bytes) (pairs : Option (List (Bytes × Bytes))) → fits (couple_by_pairs rules id a b pairs) ≡ true
  by_pairs_fits id a b None = refl
  by_pairs_fits id a b (Some pairs) =
      if_fits (are_ids rules (id ∷ a ∷ b ∷ []) && list_all (is_pair rules) pairs) (Ok (CoupleRecord id a b (map pair_of pairs))) (Err (record_fault_alone BAD_ID))
      (λ h. let q : (are_ids rules (id ∷ a ∷ b ∷ []) ≡ true) × (list_all (is_pair rules) pairs ≡ true) = and_parts (are_ids rules (id ∷ a ∷ b ∷ [])) _ h in and_from _ _ q.0 (pairs_fit pairs q.1))
      refl

  couple_fits : (fields : List Bytes) → fits (couple_record rules fields) ≡ true
  couple_fits [] = refl
  couple_fits (id ∷ []) = refl
  couple_fits (id ∷ a ∷ []) = refl
  couple_fits (id ∷ a ∷ b ∷ fields) = by_pairs_fits id a b (two_by_two fields)

  withdrawal_fits : (kind : Option Kind) (fields : List Bytes) → fits (withdraw_by_kind rules kind fields) ≡ true
  withdrawal_fits None fields = refl
  withdrawal_fits (Some kind) [] = refl
  withdrawal_fits (Some kind) (id ∷ []) =
      if_fits (are_ids rules (id ∷ [])) (Ok (WithdrawRecord kind id)) (Err (record_fault_alone BAD_ID)) (λ h. (and_parts (an_id id) _ h).0) refl
  withdrawal_fits (Some kind) (id ∷ x ∷ xs) = refl

  withdraw_fits : (fields : List Bytes) → fits (withdraw_record rules fields) ≡ true
  withdraw_fits [] = refl
  withdraw_fits (word ∷ fields) = withdrawal_fits (kind_of word) fields

  by_kind_fits : (kind : Option Kind) (fields : List Bytes) → fits (record_by_kind rules kind fields) ≡ true
  by_kind_fits (Some OfProgram) fields = program_fits fields
  by_kind_fits (Some OfApplicant) fields = applicant_fits fields
  by_kind_fits (Some OfCouple) fields = couple_fits fields
  by_kind_fits None fields = refl

  record_fits : (fields : List Bytes) → fits (record_of rules fields) ≡ true
  record_fits [] = refl
  record_fits (word ∷ fields) =
      if_fits (rules.withdrawals && bytes_eq word (codes "withdraw")) (withdraw_record rules fields) (record_by_kind rules (kind_of word) fields)
      (λ h. withdraw_fits fields) (by_kind_fits (kind_of word) fields)

  -- an id of a record that is found or missed among others
  found_fits : (ids : List Bytes) (id : Bytes) → an_id id ≡ true → where_some none_or_id (first_in ids (id ∷ [])) ≡ true
  found_fits ids id h = by (has_id ids id)
    where
      by : (b : Bool) → where_some none_or_id (cond b (Some id) None) ≡ true
      by true = none_or id h
      by false = refl

  missed_fits : (ids list : List Bytes) → list_all an_id list ≡ true → where_some none_or_id (first_not_in ids list) ≡ true
  missed_fits ids [] h = refl
  missed_fits ids (id ∷ list) h =
      let p : (an_id id ≡ true) × (list_all an_id list ≡ true) = and_parts (an_id id) _ h in
      by (has_id ids id) (none_or id p.0) (missed_fits ids list p.1)
    where
      by : (b : Bool) → none_or_id id ≡ true → where_some none_or_id (first_not_in ids list) ≡ true → where_some none_or_id (if not b then Some id else first_not_in ids list) ≡ true
      by true i ih = ih
      by false i ih = i

  own_fits : (r : Record) → names_ids r ≡ true → an_id (id_of r) ≡ true
  own_fits (ProgramRecord id quota list) h = (and_parts (an_id id) _ h).0
  own_fits (ApplicantRecord id list) h = (and_parts (an_id id) _ h).0
  own_fits (CoupleRecord id a b pairs) h = (and_parts (an_id id) _ (and_parts (list_all an_id (id ∷ a ∷ b ∷ [])) _ h).0).0
  own_fits (WithdrawRecord kind id) h = h

  registered_fits : (before : List Record) (r : Record) → names_ids r ≡ true → where_some none_or_id (registered_before before r) ≡ true
  registered_fits before (ProgramRecord id quota list) h = found_fits (ids_of OfProgram before) id (own_fits (ProgramRecord id quota list) h)
  registered_fits before (ApplicantRecord id list) h = found_fits (applicant_ids before) id (own_fits (ApplicantRecord id list) h)
  registered_fits before (CoupleRecord id a b pairs) h =
      let p : (an_id id ≡ true) × (list_all an_id (a ∷ b ∷ []) ≡ true) = and_parts (an_id id) _ (and_parts (list_all an_id (id ∷ a ∷ b ∷ [])) _ h).0 in
      let q : (an_id a ≡ true) × (list_all an_id (b ∷ []) ≡ true) = and_parts (an_id a) _ p.1 in
      some_of_first none_or_id (first_in (ids_of OfCouple before) (id ∷ []) ∷ first_in (applicant_ids before) (a ∷ []) ∷ first_in (a ∷ applicant_ids before) (b ∷ []) ∷ [])
      (and_from _ _ (found_fits (ids_of OfCouple before) id p.0)
      (and_from _ _ (found_fits (applicant_ids before) a q.0)
      (and_from _ _ (found_fits (a ∷ applicant_ids before) b (and_parts (an_id b) _ q.1).0) refl)))
  registered_fits before (WithdrawRecord kind id) h = refl

  id_charged : (code : ℕ) (id : Option Bytes) → is_fault_code code ≡ true → where_some none_or_id id ≡ true → where_some is_record_fault (option_map (record_fault code) id) ≡ true
  id_charged code None k h = refl
  id_charged code (Some id) k h = and_from _ _ k h

  test_charged : (b : Bool) (c : RecordFault) → is_record_fault c ≡ true → where_some is_record_fault (then_some b c) ≡ true
  test_charged true c h = h
  test_charged false c h = refl

  conflict_fits : (before : List Record) (r : Record) → names_ids r ≡ true → where_some is_record_fault (first_conflict rules before r) ≡ true
  conflict_fits before r h =
      let own : none_or_id (id_of r) ≡ true = none_or (id_of r) (own_fits r h) in
      some_of_first is_record_fault
      (option_map (record_fault DUPLICATE_ID) (registered_before before r)
      ∷ then_some (says_twice before r) (record_fault DUPLICATE_ENTRY (id_of r))
      ∷ then_some (are_too_many rules.limits (before ++ r ∷ [])) (record_fault TOO_MANY (id_of r)) ∷ [])
      (and_from _ _ (id_charged DUPLICATE_ID (registered_before before r) refl (registered_fits before r h))
      (and_from _ _ (test_charged (says_twice before r) (record_fault DUPLICATE_ENTRY (id_of r)) own)
      (and_from _ _ (test_charged (are_too_many rules.limits (before ++ r ∷ [])) (record_fault TOO_MANY (id_of r)) own) refl)))

  next_fits : (before : List Record) (fields : List Bytes) → fits (next_record rules before fields) ≡ true
  next_fits before fields =
      either_next names_ids names_ids is_record_fault (record_of rules fields) (λ r. unless (first_conflict rules before r) r) (record_fits fields)
      (λ r h. either_unless names_ids is_record_fault (first_conflict rules before r) r (conflict_fits before r h) h)

  at_fits : (n : ℕ) (o : Result Record RecordFault) → fits o ≡ true → either names_ids is_fault (at_record n o) ≡ true
  at_fits n (Ok r) h = h
  at_fits n (Err c) h = h

  abbrev name_ids : List (Numbered Record) → Bool
  name_ids records = list_all names_ids (contents records)

  more_fit : (before : List (Numbered Record)) (n : ℕ) (r : Record) → name_ids before ≡ true → names_ids r ≡ true → name_ids (before ++ (n, r) ∷ []) ≡ true
  more_fit before n r h k = rw (map-append, list_all-append, h, k) refl

  first_pass_fits : (before : List (Numbered Record)) (rows : List (Numbered (List Bytes))) → name_ids before ≡ true → either name_ids is_fault (first_pass rules before rows) ≡ true
  first_pass_fits before [] h = h
  first_pass_fits before (row ∷ rows) h =
      either_next names_ids name_ids is_fault (at_record row.0 (next_record rules (contents before) row.1)) (λ r. first_pass rules (before ++ (row.0, r) ∷ []) rows)
      (at_fits row.0 (next_record rules (contents before) row.1) (next_fits (contents before) row.1))
      (λ r k. first_pass_fits (before ++ (row.0, r) ∷ []) rows (more_fit before row.0 r h k))

  unknown_charged : (all : List Record) (r : Record) → names_ids r ≡ true → where_some is_record_fault (unknown_id all r) ≡ true
  unknown_charged all (ProgramRecord id quota list) h =
      id_charged UNKNOWN_APPLICANT (first_not_in (applicant_ids all) list) refl (missed_fits (applicant_ids all) list (and_parts (an_id id) _ h).1)
  unknown_charged all (ApplicantRecord id list) h =
      id_charged UNKNOWN_PROGRAM (first_not_in (ids_of OfProgram all) list) refl (missed_fits (ids_of OfProgram all) list (and_parts (an_id id) _ h).1)
  unknown_charged all (CoupleRecord id a b pairs) h =
      id_charged UNKNOWN_PROGRAM (first_not_in (ids_of OfProgram all) (flat_map named pairs)) refl
      (missed_fits (ids_of OfProgram all) (flat_map named pairs) (and_parts (list_all an_id (id ∷ a ∷ b ∷ [])) _ h).1)
  unknown_charged all (WithdrawRecord kind id) h =
      id_charged NOT_REGISTERED (first_not_in (ids_of kind all) (id ∷ [])) refl (missed_fits (ids_of kind all) (id ∷ []) (and_from _ _ h refl))

  fault_fits : (n : ℕ) (o : Option RecordFault) → where_some is_record_fault o ≡ true → where_some is_fault (option_map (fault_at n) o) ≡ true
  fault_fits n None h = refl
  fault_fits n (Some c) h = h

  second_pass_fits : (all : List Record) (records : List (Numbered Record)) → name_ids records ≡ true
      → list_all (where_some is_fault) (map (λ r. option_map (fault_at r.0) (unknown_id all r.1)) records) ≡ true
  second_pass_fits all [] h = refl
  second_pass_fits all (r ∷ records) h =
      let p : (names_ids r.1 ≡ true) × (name_ids records ≡ true) = and_parts (names_ids r.1) _ h in
      and_from _ _ (fault_fits r.0 (unknown_id all r.1) (unknown_charged all r.1 p.0)) (second_pass_fits all records p.1)

  under_fits : (rows : List (Numbered (List Bytes))) → either (λ r. true) is_fault (market_under rules rows) ≡ true
  under_fits rows =
      either_next name_ids (λ r. true) is_fault (first_pass rules [] rows) (λ records. unless (second_pass records) (registered (contents records))) (first_pass_fits [] rows refl)
      (λ records h. either_unless (λ r. true) is_fault (second_pass records) (registered (contents records)) (some_of_first is_fault (map (λ r. option_map (fault_at r.0) (unknown_id (contents records) r.1)) records) (second_pass_fits (contents records) records h)) refl)

-- by those of either version
long_enough : (id : Bytes) → none_or_id version_1 id ≡ true → is_none_or_id id ≡ true
long_enough [] k = refl
long_enough (byte ∷ bytes) k = second_of_four _ (nat_le (length (byte ∷ bytes)) 32) (nat_le (length (byte ∷ bytes)) 64) _ _ (id_of_more (length (byte ∷ bytes))) k

long : (id : Bytes) → none_or_id version_2 id ≡ true → is_none_or_id id ≡ true
long [] k = refl
long (byte ∷ bytes) k = k

abbrev is_known : Fault → Bool
is_known f = is_fault_code f.code && is_none_or_id f.id

abbrev may_end : Result Registered Fault → Bool
may_end o = either (λ r. true) is_known o

of_version : (rules : Rules) → ((id : Bytes) → none_or_id rules id ≡ true → is_none_or_id id ≡ true) → (m : Result Registered Fault) → either (λ r. true) (is_fault rules) m ≡ true → may_end m ≡ true
of_version rules more (Ok r) h = refl
of_version rules more (Err f) h = let p : (is_fault_code f.code ≡ true) × (none_or_id rules f.id ≡ true) = and_parts (is_fault_code f.code) _ h in and_from _ _ p.0 (more f.id p.1)

version_ends : (fields : List Bytes) (rows : List (Numbered (List Bytes))) (n : ℕ)
    → may_end (option_map_or (λ rules. market_under rules rows) (rules_of fields) (Err (fault_at n (record_fault_alone NO_VERSION)))) ≡ true
version_ends [] rows n = refl
version_ends (word ∷ []) rows n = refl
version_ends (word ∷ number ∷ []) rows n = by (bytes_eq word (codes "match") && bytes_eq number (codes "1")) (bytes_eq word (codes "match") && bytes_eq number (codes "2"))
  where
    by : (b c : Bool) → may_end (option_map_or (λ rules. market_under rules rows) (if b then Some version_1 else (if c then Some version_2 else None)) (Err (fault_at n (record_fault_alone NO_VERSION)))) ≡ true
    by true c = of_version version_1 long_enough (market_under version_1 rows) (under_fits version_1 rows)
    by false true = of_version version_2 long (market_under version_2 rows) (under_fits version_2 rows)
    by false false = refl
version_ends (word ∷ number ∷ f ∷ fs) rows n = refl

numbered_ends : (rows : List (Numbered (List Bytes))) → may_end (market_of_numbered rows) ≡ true
numbered_ends [] = refl
numbered_ends (row ∷ rows) = version_ends row.1 rows row.0

pub fault_codes_lem : FaultCodes
fault_codes_lem rows f h = (and_parts (is_fault_code f.code) _ (ap may_end (sym h) ∙ numbered_ends (numbered_from 1 rows))).0

pub fault_ids_lem : FaultIds
fault_ids_lem rows f h = (and_parts (is_fault_code f.code) _ (ap may_end (sym h) ∙ numbered_ends (numbered_from 1 rows))).1

is_short : (n : ℕ) → nat_le n 64 ≡ true → n ≤ 64
is_short n h = grind (arith, nat_tests)

-- so it is short
pub short_id : (id : Bytes) → is_none_or_id id ≡ true → length id ≤ 64
short_id [] h = omega arith
short_id (byte ∷ bytes) h = is_short (length (byte ∷ bytes)) (second _ (nat_le (length (byte ∷ bytes)) 64) _ _ h)
  where
    second : (a b c d : Bool) → (a && b && c && d) ≡ true → b ≡ true
    second true true c d k = refl
    second true false c d k = cc
    second false b c d k = cc
