-- A record as it is read, and the same whatever its list has in it.
use Rattle.std.proofs.Common.{◌≡◌, ℕ, Bool, true, false, not, ◌&&◌, ◌||◌, List, [], ◌∷◌, map, Option, Some, None, Result, Ok, Err, refl, subst, sym, arith, ◌∙◌}
use Rattle.std.specs.Prelude.{if◌then◌else◌, codes, bytes_eq, option_map, ok_or}
use Rattle.std.specs.List.{list_all}
use Rattle.std.specs.Result.{result_ok}
use Rattle.std.proofs.lemmas.Bool.{and_parts, and_from}
use Rattle.mt_terms.specs.Registration.Ids.{Bytes, is_dash, is_id, quota_of}
use Rattle.mt_terms.specs.Registration.Faults.{RecordFault, record_fault, record_fault_alone}
use Rattle.mt_terms.specs.declared.codes.TheConstants.{BAD_ID, BAD_QUOTA}
use Rattle.mt_terms.specs.Registration.Records.{Rules, Record, ProgramRecord, ApplicantRecord, CoupleRecord, WithdrawRecord, Kind, OfProgram, OfApplicant, OfCouple, IdPair, kind_of, are_ids, is_pair, pair_of, two_by_two, record_of, record_by_kind, program_record, applicant_record, couple_by_pairs, couple_record, withdraw_by_kind, withdraw_record}
use Rattle.mt_terms.specs.Registration.Rows.{ids_of, applicant_ids}
use Rattle.mt_draft_laws.specs.Faultless.{program_draft, applicant_draft, couple_draft, draft_by_kind, draft, is_allowed}

-- whether what a record registers are ids
abbrev pub registers_ids : Rules → Record → Bool
registers_ids rules (ProgramRecord id quota list) = are_ids rules (id ∷ [])
registers_ids rules (ApplicantRecord id list) = are_ids rules (id ∷ [])
registers_ids rules (CoupleRecord id a b pairs) = are_ids rules (id ∷ a ∷ b ∷ [])
registers_ids rules (WithdrawRecord kind id) = true

-- whether a place is none or an id, and a pair one of two such places that is allowed
abbrev pub is_none_or_id : Rules → Option Bytes → Bool
is_none_or_id rules None = true
is_none_or_id rules (Some id) = is_id rules.limits.id_bytes id

abbrev pub is_id_pair : Rules → IdPair → Bool
is_id_pair rules p = is_allowed rules.half_pairs p && (is_none_or_id rules p.0 && is_none_or_id rules p.1)

-- whether the list of a program or of a single has ids alone, and that of a couple pairs of ids that are allowed
abbrev pub lists_ids : Rules → Record → Bool
lists_ids rules (ProgramRecord id quota list) = are_ids rules list
lists_ids rules (ApplicantRecord id list) = are_ids rules list
lists_ids rules (CoupleRecord id a b pairs) = list_all (is_id_pair rules) pairs
lists_ids rules (WithdrawRecord kind id) = true

-- a record that is read is the draft, and its list has ids alone; a draft registers ids and is read if its list has ids alone
pub record IsDraft (rules : Rules) (read : Result Record RecordFault) (drafted : Option Record) : Type 0 where
  pub drafts : (r : Record) → read ≡ Ok r → drafted ≡ Some r
  pub lists : (r : Record) → read ≡ Ok r → lists_ids rules r ≡ true
  pub registers : (r : Record) → drafted ≡ Some r → registers_ids rules r ≡ true
  pub reads : (r : Record) → drafted ≡ Some r → lists_ids rules r ≡ true → read ≡ Ok r

module _ (rules : Rules) where
  no_draft : (e : RecordFault) → IsDraft rules (Err e) None
  no_draft e = record { drafts = λ r h. cc; lists = λ r h. cc; registers = λ r h. cc; reads = λ r h l. cc }

  -- a draft whose list has ids alone, or has another field
  listed : (q : Record) → registers_ids rules q ≡ true → lists_ids rules q ≡ true → IsDraft rules (Ok q) (Some q)
  listed q i l = record {
    drafts = λ r h. let s : q ≡ r = cc in cc;
    lists = λ r h. let s : q ≡ r = cc in subst (λ (z : Record). lists_ids rules z ≡ true) s l;
    registers = λ r h. let s : q ≡ r = cc in subst (λ (z : Record). registers_ids rules z ≡ true) s i;
    reads = λ r h k. let s : q ≡ r = cc in cc;
  }

  unlisted : (q : Record) (e : RecordFault) → registers_ids rules q ≡ true → lists_ids rules q ≡ false → IsDraft rules (Err e) (Some q)
  unlisted q e i l = record {
    drafts = λ r h. cc;
    lists = λ r h. cc;
    registers = λ r h. let s : q ≡ r = cc in subst (λ (z : Record). registers_ids rules z ≡ true) s i;
    reads = λ r h k. let s : q ≡ r = cc in let t : lists_ids rules q ≡ true = subst (λ (z : Record). lists_ids rules z ≡ true) (sym s) k in absurd (cc (l, t));
  }

  program_drafts : (fields : List Bytes) → IsDraft rules (program_record rules fields) (program_draft rules fields)
  program_drafts [] = no_draft _
  program_drafts (id ∷ []) = no_draft _
  program_drafts (id ∷ quota ∷ list) = by (is_id rules.limits.id_bytes id) (are_ids rules list) (quota_of quota) refl refl
    where
      by : (b c : Bool) (o : Option ℕ) → is_id rules.limits.id_bytes id ≡ b → are_ids rules list ≡ c
          → IsDraft rules (if b && c then ok_or (option_map (λ n. ProgramRecord id n list) o) (record_fault BAD_QUOTA id) else Err (record_fault_alone BAD_ID)) (if b then option_map (λ n. ProgramRecord id n list) o else None)
      by true true (Some n) i l = listed (ProgramRecord id n list) (and_from _ _ i refl) l
      by true true None i l = no_draft _
      by true false (Some n) i l = unlisted (ProgramRecord id n list) _ (and_from _ _ i refl) l
      by true false None i l = no_draft _
      by false c o i l = no_draft _

  applicant_drafts : (fields : List Bytes) → IsDraft rules (applicant_record rules fields) (applicant_draft rules fields)
  applicant_drafts [] = no_draft _
  applicant_drafts (id ∷ list) = by (is_id rules.limits.id_bytes id) (are_ids rules list) refl refl
    where
      by : (b c : Bool) → is_id rules.limits.id_bytes id ≡ b → are_ids rules list ≡ c
          → IsDraft rules (if b && c then Ok (ApplicantRecord id list) else Err (record_fault_alone BAD_ID)) (if b then Some (ApplicantRecord id list) else None)
      by true true i l = listed (ApplicantRecord id list) (and_from _ _ i refl) l
      by true false i l = unlisted (ApplicantRecord id list) _ (and_from _ _ i refl) l
      by false c i l = no_draft _

  -- two fields are a pair if the places that they write are
  dash_no_id : (field : Bytes) → is_dash field ≡ true → is_id rules.limits.id_bytes field ≡ false
  dash_no_id field h = rw h (by _)
    where
      by : (b : Bool) → (b && not true) ≡ false
      by b = grind arith

  pair_is : (p : Bytes × Bytes) → is_pair rules p ≡ is_id_pair rules (pair_of p)
  pair_is (x, y) = by (is_dash x) (is_dash y) (dash_no_id x) (dash_no_id y)
    where
      most : ℕ
      most = rules.limits.id_bytes

      neither_id : (h : Bool) → (h && false) ≡ ((h && false) && true)
      neither_id h = grind arith

      second_id : (i h : Bool) → (h && i) ≡ (h && true && (true && i))
      second_id i h = grind arith

      first_id : (i h : Bool) → ((i && false) || (h && ((i && true) || false))) ≡ ((h && true) && (i && true))
      first_id i h = grind arith

      both_ids : (i j h : Bool) → ((i && j) || (h && ((i && false) || false))) ≡ ((true || (h && true)) && (i && j))
      both_ids i j h = grind arith

      by : (d e : Bool) → (d ≡ true → is_id most x ≡ false) → (e ≡ true → is_id most y ≡ false)
          → ((is_id most x && is_id most y) || (rules.half_pairs && ((is_id most x && e) || (d && is_id most y))))
          ≡ is_id_pair rules (if d then None else Some x, if e then None else Some y)
      by true true f g = rw (f refl, g refl) (neither_id rules.half_pairs)
      by true false f g = rw (f refl) (second_id (is_id most y) rules.half_pairs)
      by false true f g = rw (g refl) (first_id (is_id most x) rules.half_pairs)
      by false false f g = both_ids (is_id most x) (is_id most y) rules.half_pairs

  pairs_are : (ps : List (Bytes × Bytes)) → list_all (is_pair rules) ps ≡ list_all (is_id_pair rules) (map pair_of ps)
  pairs_are [] = refl
  pairs_are (p ∷ ps) = rw (pair_is p, pairs_are ps) refl

  couple_drafts : (fields : List Bytes) → IsDraft rules (couple_record rules fields) (couple_draft rules fields)
  couple_drafts [] = no_draft _
  couple_drafts (id ∷ []) = no_draft _
  couple_drafts (id ∷ a ∷ []) = no_draft _
  couple_drafts (id ∷ a ∷ b ∷ fields) = by (two_by_two fields) (are_ids rules (id ∷ a ∷ b ∷ [])) refl
    where
      tested : (pairs : List (Bytes × Bytes)) (all : Bool) → are_ids rules (id ∷ a ∷ b ∷ []) ≡ true → list_all (is_pair rules) pairs ≡ all
          → IsDraft rules (if all then Ok (CoupleRecord id a b (map pair_of pairs)) else Err (record_fault_alone BAD_ID)) (Some (CoupleRecord id a b (map pair_of pairs)))
      tested pairs true i l = listed (CoupleRecord id a b (map pair_of pairs)) i (sym (pairs_are pairs) ∙ l)
      tested pairs false i l = unlisted (CoupleRecord id a b (map pair_of pairs)) _ i (sym (pairs_are pairs) ∙ l)

      by : (o : Option (List (Bytes × Bytes))) (ids : Bool) → are_ids rules (id ∷ a ∷ b ∷ []) ≡ ids
          → IsDraft rules (couple_by_pairs rules id a b o) (if ids then option_map (λ pairs. CoupleRecord id a b (map pair_of pairs)) o else None)
      by None true i = no_draft _
      by None false i = no_draft _
      by (Some pairs) true i = rw i (tested pairs (list_all (is_pair rules) pairs) i refl)
      by (Some pairs) false i = rw i (no_draft _)

  withdraw_drafts : (fields : List Bytes) → IsDraft rules (withdraw_record rules fields) (result_ok (withdraw_record rules fields))
  withdraw_drafts [] = no_draft _
  withdraw_drafts (word ∷ fields) = by (kind_of word) fields
    where
      tested : (kind : Kind) (id : Bytes) (b : Bool)
          → IsDraft rules (if b then Ok (WithdrawRecord kind id) else Err (record_fault_alone BAD_ID)) (result_ok (if b then Ok (WithdrawRecord kind id) else Err (record_fault_alone BAD_ID)))
      tested kind id true = listed (WithdrawRecord kind id) refl refl
      tested kind id false = no_draft _

      by : (o : Option Kind) (fs : List Bytes) → IsDraft rules (withdraw_by_kind rules o fs) (result_ok (withdraw_by_kind rules o fs))
      by None fs = no_draft _
      by (Some kind) [] = no_draft _
      by (Some kind) (id ∷ []) = tested kind id (are_ids rules (id ∷ []))
      by (Some kind) (id ∷ f ∷ fs) = no_draft _

  kind_drafts : (o : Option Kind) (fields : List Bytes) → IsDraft rules (record_by_kind rules o fields) (draft_by_kind rules o fields)
  kind_drafts None fields = no_draft _
  kind_drafts (Some OfProgram) fields = program_drafts fields
  kind_drafts (Some OfApplicant) fields = applicant_drafts fields
  kind_drafts (Some OfCouple) fields = couple_drafts fields

  pub is_draft : (fields : List Bytes) → IsDraft rules (record_of rules fields) (draft rules fields)
  is_draft [] = no_draft _
  is_draft (word ∷ fields) = by (rules.withdrawals && bytes_eq word (codes "withdraw"))
    where
      by : (b : Bool)
          → IsDraft rules (if b then withdraw_record rules fields else record_by_kind rules (kind_of word) fields)
          (if b then result_ok (withdraw_record rules fields) else draft_by_kind rules (kind_of word) fields)
      by true = withdraw_drafts fields
      by false = kind_drafts (kind_of word) fields

  -- the ids that records register
  pub programs_ids : (rs : List Record) → list_all (registers_ids rules) rs ≡ true → are_ids rules (ids_of OfProgram rs) ≡ true
  programs_ids [] h = refl
  programs_ids (ProgramRecord id quota list ∷ rs) h =
      let q : (are_ids rules (id ∷ []) ≡ true) × (list_all (registers_ids rules) rs ≡ true) = and_parts (are_ids rules (id ∷ [])) _ h in
      and_from _ _ (and_parts (is_id rules.limits.id_bytes id) _ q.0).0 (programs_ids rs q.1)
  programs_ids (ApplicantRecord id list ∷ rs) h = programs_ids rs (and_parts (are_ids rules (id ∷ [])) _ h).1
  programs_ids (CoupleRecord id a b pairs ∷ rs) h = programs_ids rs (and_parts (are_ids rules (id ∷ a ∷ b ∷ [])) _ h).1
  programs_ids (WithdrawRecord kind id ∷ rs) h = programs_ids rs h

  pub applicants_ids : (rs : List Record) → list_all (registers_ids rules) rs ≡ true → are_ids rules (applicant_ids rs) ≡ true
  applicants_ids [] h = refl
  applicants_ids (ProgramRecord id quota list ∷ rs) h = applicants_ids rs (and_parts (are_ids rules (id ∷ [])) _ h).1
  applicants_ids (ApplicantRecord id list ∷ rs) h =
      let q : (are_ids rules (id ∷ []) ≡ true) × (list_all (registers_ids rules) rs ≡ true) = and_parts (are_ids rules (id ∷ [])) _ h in
      and_from _ _ (and_parts (is_id rules.limits.id_bytes id) _ q.0).0 (applicants_ids rs q.1)
  applicants_ids (CoupleRecord id a b pairs ∷ rs) h =
      let q : (are_ids rules (id ∷ a ∷ b ∷ []) ≡ true) × (list_all (registers_ids rules) rs ≡ true) = and_parts (are_ids rules (id ∷ a ∷ b ∷ [])) _ h in
      let m : are_ids rules (a ∷ b ∷ []) ≡ true = (and_parts (is_id rules.limits.id_bytes id) _ q.0).1 in
      let n : (is_id rules.limits.id_bytes a ≡ true) × (are_ids rules (b ∷ []) ≡ true) = and_parts (is_id rules.limits.id_bytes a) _ m in
      and_from _ _ n.0 (and_from _ _ (and_parts (is_id rules.limits.id_bytes b) _ n.1).0 (applicants_ids rs q.1))
  applicants_ids (WithdrawRecord kind id ∷ rs) h = applicants_ids rs h
