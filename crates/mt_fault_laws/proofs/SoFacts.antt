-- Each list of faults of a record has one code, and with it one reason. So have all faults of a file, record by record.
use Rattle.std.proofs.Common.{◌≡◌, ◌⊎◌, inl, inr, ℕ, ◌+◌, ◌==◌, Bool, true, false, not, ◌&&◌, List, [], ◌∷◌, ◌++◌, map, filter, Option, Some, None, All, IsTrue, IsFalse, refl, cond, ap, sym, ◌∙◌, subst}
use Rattle.std.specs.Prelude.{option_to_list, flat_map, is_some, if◌then◌else◌}
use Rattle.std.specs.List.{list_any}
use Rattle.std.proofs.lemmas.Bool.{and_parts, or_parts, not-true}
use Rattle.std.proofs.lemmas.List.{append_assoc, append-nil, map-append}
use Rattle.std.proofs.lemmas.List.Elements.{All-nil, All-cons, All-head, All-tail, All-append, All-map, All-filter, All-weaker, filter_passes}
use Rattle.mt_terms.specs.declared.codes.TheConstants.{UNKNOWN_KIND, FIELD_COUNT, BAD_ID, BAD_QUOTA, DUPLICATE_ID, DUPLICATE_ENTRY, TOO_MANY, UNKNOWN_APPLICANT, UNKNOWN_PROGRAM, NOT_REGISTERED}
use Rattle.mt_terms.specs.Registration.Ids.{Bytes, has_id, quota_of}
use Rattle.mt_terms.specs.Registration.Passes.{Numbered, contents, is_same_pair}
use Rattle.mt_terms.specs.Registration.Records.{Rules, Kind, OfProgram, OfApplicant, OfCouple, is_pair, pair_of}
use Rattle.mt_fault_terms.specs.Faults.{Placed, FieldFault, fault_alone, fault_of}
use Rattle.mt_fault_terms.specs.Parts.{Form, Registers, Withdraws, Unknown, Parts, PlacedPair, parts_of, all_own_ids, all_applicants, all_withdrawn}
use Rattle.mt_fault_terms.specs.OfRecord.{is_id_field, is_place_field, alone_at, bad_of_pair, bad_fields, id_among, quota_faults, own_faults, found_among, members_before, registered_faults, repeats_after, shown_of_pair, pair_repeats_after, repeat_faults, limit_faults, unknown_faults, first_faults, record_faults}
use Rattle.mt_fault_terms.specs.OfFile.{all_parts, faults_after}
use Rattle.mt_fault_laws.specs.Reasons.{IsField, AtField, AtId, unplaced, IsCoupleBefore, IsMemberBefore, IsListedBefore, IsPairedBefore, IsWithdrawnBefore, HasReason, IsSo, FaultsAreSo}
use Rattle.mt_fault_laws.proofs.Reading.{both}
use Rattle.mt_fault_laws.proofs.FormFacts.{form_too, OfCode, limit_code}
use Rattle.mt_fault_laws.proofs.ReasonFacts.{differ, AreFields, fields_of_parts, Passes, all_pass}

module _ (rules : Rules) where
  module _ (all before : List Parts) (fields : List Bytes) where
    abbrev parts : Parts
    parts = parts_of rules fields

    abbrev Reason : FieldFault → Type 0
    Reason fault = HasReason rules all before fields fault

    are_fields : AreFields fields parts
    are_fields = fields_of_parts rules fields

    -- by code
    other : (c : ℕ) → (c == BAD_ID) ≡ false → (c == BAD_QUOTA) ≡ false → (c == DUPLICATE_ID) ≡ false → (c == DUPLICATE_ENTRY) ≡ false → (c == UNKNOWN_APPLICANT) ≡ false → (c == UNKNOWN_PROGRAM) ≡ false → (c == NOT_REGISTERED) ≡ false
        → (f : FieldFault) → f.code ≡ c → Reason f
    other c t15 t16 t17 t18 t20 t21 t22 f h = record {
      bad_id = λ e. absurd (differ f.code c BAD_ID t15 h e);
      bad_quota = λ e. absurd (differ f.code c BAD_QUOTA t16 h e);
      registered_program = λ e g. absurd (differ f.code c DUPLICATE_ID t17 h e);
      registered_applicant = λ e g. absurd (differ f.code c DUPLICATE_ID t17 h e);
      registered_couple = λ e g. absurd (differ f.code c DUPLICATE_ID t17 h e);
      repeated = λ e. absurd (differ f.code c DUPLICATE_ENTRY t18 h e);
      unknown_applicant = λ e. absurd (differ f.code c UNKNOWN_APPLICANT t20 h e);
      unknown_program = λ e. absurd (differ f.code c UNKNOWN_PROGRAM t21 h e);
      not_registered = λ e. absurd (differ f.code c NOT_REGISTERED t22 h e);
    }

    of_bad : (f : FieldFault) → f.code ≡ BAD_ID → AtField fields f (λ field. IsFalse (is_id_field rules field)) → Reason f
    of_bad f h at = record {
      bad_id = λ e. at;
      bad_quota = λ e. absurd (differ f.code BAD_ID BAD_QUOTA refl h e);
      registered_program = λ e g. absurd (differ f.code BAD_ID DUPLICATE_ID refl h e);
      registered_applicant = λ e g. absurd (differ f.code BAD_ID DUPLICATE_ID refl h e);
      registered_couple = λ e g. absurd (differ f.code BAD_ID DUPLICATE_ID refl h e);
      repeated = λ e. absurd (differ f.code BAD_ID DUPLICATE_ENTRY refl h e);
      unknown_applicant = λ e. absurd (differ f.code BAD_ID UNKNOWN_APPLICANT refl h e);
      unknown_program = λ e. absurd (differ f.code BAD_ID UNKNOWN_PROGRAM refl h e);
      not_registered = λ e. absurd (differ f.code BAD_ID NOT_REGISTERED refl h e);
    }

    of_quota : (f : FieldFault) → f.code ≡ BAD_QUOTA → AtField fields f (λ field. quota_of field.1 ≡ None) → Reason f
    of_quota f h at = record {
      bad_id = λ e. absurd (differ f.code BAD_QUOTA BAD_ID refl h e);
      bad_quota = λ e. at;
      registered_program = λ e g. absurd (differ f.code BAD_QUOTA DUPLICATE_ID refl h e);
      registered_applicant = λ e g. absurd (differ f.code BAD_QUOTA DUPLICATE_ID refl h e);
      registered_couple = λ e g. absurd (differ f.code BAD_QUOTA DUPLICATE_ID refl h e);
      repeated = λ e. absurd (differ f.code BAD_QUOTA DUPLICATE_ENTRY refl h e);
      unknown_applicant = λ e. absurd (differ f.code BAD_QUOTA UNKNOWN_APPLICANT refl h e);
      unknown_program = λ e. absurd (differ f.code BAD_QUOTA UNKNOWN_PROGRAM refl h e);
      not_registered = λ e. absurd (differ f.code BAD_QUOTA NOT_REGISTERED refl h e);
    }

    of_registered : (f : FieldFault) → f.code ≡ DUPLICATE_ID
        → (parts.form ≡ Registers OfProgram → AtId rules fields f (λ id. IsTrue (has_id (all_own_ids rules OfProgram before) id)))
        → (parts.form ≡ Registers OfApplicant → AtId rules fields f (λ id. IsTrue (has_id (all_applicants rules before) id)))
        → (parts.form ≡ Registers OfCouple → IsCoupleBefore rules before parts f ⊎ IsMemberBefore rules before parts f)
        → Reason f
    of_registered f h program applicant couple = record {
      bad_id = λ e. absurd (differ f.code DUPLICATE_ID BAD_ID refl h e);
      bad_quota = λ e. absurd (differ f.code DUPLICATE_ID BAD_QUOTA refl h e);
      registered_program = λ e g. program g;
      registered_applicant = λ e g. applicant g;
      registered_couple = λ e g. couple g;
      repeated = λ e. absurd (differ f.code DUPLICATE_ID DUPLICATE_ENTRY refl h e);
      unknown_applicant = λ e. absurd (differ f.code DUPLICATE_ID UNKNOWN_APPLICANT refl h e);
      unknown_program = λ e. absurd (differ f.code DUPLICATE_ID UNKNOWN_PROGRAM refl h e);
      not_registered = λ e. absurd (differ f.code DUPLICATE_ID NOT_REGISTERED refl h e);
    }

    of_repeat : (f : FieldFault) → f.code ≡ DUPLICATE_ENTRY → IsListedBefore rules parts f ⊎ (IsPairedBefore rules parts f ⊎ IsWithdrawnBefore rules before fields f) → Reason f
    of_repeat f h at = record {
      bad_id = λ e. absurd (differ f.code DUPLICATE_ENTRY BAD_ID refl h e);
      bad_quota = λ e. absurd (differ f.code DUPLICATE_ENTRY BAD_QUOTA refl h e);
      registered_program = λ e g. absurd (differ f.code DUPLICATE_ENTRY DUPLICATE_ID refl h e);
      registered_applicant = λ e g. absurd (differ f.code DUPLICATE_ENTRY DUPLICATE_ID refl h e);
      registered_couple = λ e g. absurd (differ f.code DUPLICATE_ENTRY DUPLICATE_ID refl h e);
      repeated = λ e. at;
      unknown_applicant = λ e. absurd (differ f.code DUPLICATE_ENTRY UNKNOWN_APPLICANT refl h e);
      unknown_program = λ e. absurd (differ f.code DUPLICATE_ENTRY UNKNOWN_PROGRAM refl h e);
      not_registered = λ e. absurd (differ f.code DUPLICATE_ENTRY NOT_REGISTERED refl h e);
    }

    of_applicant : (f : FieldFault) → f.code ≡ UNKNOWN_APPLICANT → AtId rules fields f (λ id. IsFalse (has_id (all_applicants rules all) id)) → Reason f
    of_applicant f h at = record {
      bad_id = λ e. absurd (differ f.code UNKNOWN_APPLICANT BAD_ID refl h e);
      bad_quota = λ e. absurd (differ f.code UNKNOWN_APPLICANT BAD_QUOTA refl h e);
      registered_program = λ e g. absurd (differ f.code UNKNOWN_APPLICANT DUPLICATE_ID refl h e);
      registered_applicant = λ e g. absurd (differ f.code UNKNOWN_APPLICANT DUPLICATE_ID refl h e);
      registered_couple = λ e g. absurd (differ f.code UNKNOWN_APPLICANT DUPLICATE_ID refl h e);
      repeated = λ e. absurd (differ f.code UNKNOWN_APPLICANT DUPLICATE_ENTRY refl h e);
      unknown_applicant = λ e. at;
      unknown_program = λ e. absurd (differ f.code UNKNOWN_APPLICANT UNKNOWN_PROGRAM refl h e);
      not_registered = λ e. absurd (differ f.code UNKNOWN_APPLICANT NOT_REGISTERED refl h e);
    }

    of_program : (f : FieldFault) → f.code ≡ UNKNOWN_PROGRAM → AtId rules fields f (λ id. IsFalse (has_id (all_own_ids rules OfProgram all) id)) → Reason f
    of_program f h at = record {
      bad_id = λ e. absurd (differ f.code UNKNOWN_PROGRAM BAD_ID refl h e);
      bad_quota = λ e. absurd (differ f.code UNKNOWN_PROGRAM BAD_QUOTA refl h e);
      registered_program = λ e g. absurd (differ f.code UNKNOWN_PROGRAM DUPLICATE_ID refl h e);
      registered_applicant = λ e g. absurd (differ f.code UNKNOWN_PROGRAM DUPLICATE_ID refl h e);
      registered_couple = λ e g. absurd (differ f.code UNKNOWN_PROGRAM DUPLICATE_ID refl h e);
      repeated = λ e. absurd (differ f.code UNKNOWN_PROGRAM DUPLICATE_ENTRY refl h e);
      unknown_applicant = λ e. absurd (differ f.code UNKNOWN_PROGRAM UNKNOWN_APPLICANT refl h e);
      unknown_program = λ e. at;
      not_registered = λ e. absurd (differ f.code UNKNOWN_PROGRAM NOT_REGISTERED refl h e);
    }

    of_withdrawal : (f : FieldFault) → f.code ≡ NOT_REGISTERED
        → (kind : Kind) × (parts.form ≡ Withdraws kind) × AtId rules fields f (λ id. IsFalse (has_id (all_own_ids rules kind all) id)) → Reason f
    of_withdrawal f h at = record {
      bad_id = λ e. absurd (differ f.code NOT_REGISTERED BAD_ID refl h e);
      bad_quota = λ e. absurd (differ f.code NOT_REGISTERED BAD_QUOTA refl h e);
      registered_program = λ e g. absurd (differ f.code NOT_REGISTERED DUPLICATE_ID refl h e);
      registered_applicant = λ e g. absurd (differ f.code NOT_REGISTERED DUPLICATE_ID refl h e);
      registered_couple = λ e g. absurd (differ f.code NOT_REGISTERED DUPLICATE_ID refl h e);
      repeated = λ e. absurd (differ f.code NOT_REGISTERED DUPLICATE_ENTRY refl h e);
      unknown_applicant = λ e. absurd (differ f.code NOT_REGISTERED UNKNOWN_APPLICANT refl h e);
      unknown_program = λ e. absurd (differ f.code NOT_REGISTERED UNKNOWN_PROGRAM refl h e);
      not_registered = λ e. at;
    }

    -- an id at fault, by the test that it passes
    found_id : (code : ℕ) (ids : List Bytes) (f : FieldFault) → Passes fields (λ field. is_id_field rules field && has_id ids field.1) code f → AtId rules fields f (λ id. IsTrue (has_id ids id))
    found_id code ids f p =
        let q : (is_id_field rules p.field ≡ true) × (has_id ids p.field.1 ≡ true) = and_parts (is_id_field rules p.field) (has_id ids p.field.1) p.passes in
        (p.field, p.is_field, p.place, (p.id, q.0, subst (λ (id : Bytes). has_id ids id ≡ true) p.id q.1))

    missing_id : (code : ℕ) (ids : List Bytes) (f : FieldFault) → Passes fields (λ field. is_id_field rules field && not (has_id ids field.1)) code f → AtId rules fields f (λ id. IsFalse (has_id ids id))
    missing_id code ids f p =
        let q : (is_id_field rules p.field ≡ true) × (not (has_id ids p.field.1) ≡ true) = and_parts (is_id_field rules p.field) (not (has_id ids p.field.1)) p.passes in
        (p.field, p.is_field, p.place, (p.id, q.0, subst (λ (id : Bytes). has_id ids id ≡ false) p.id (not-true (has_id ids p.field.1) q.1)))

    -- the fields that should be ids
    abbrev IsBad : Placed → Type 0
    IsBad field = IsField fields field × IsFalse (is_id_field rules field)

    bad_among : (xs : List Placed) → All (IsField fields) xs → All IsBad (filter (λ field. not (is_id_field rules field)) xs)
    bad_among xs h = λ k d lt.
        (All-filter (λ field. not (is_id_field rules field)) (IsField fields) xs h k d lt, not-true _ (filter_passes (λ field. not (is_id_field rules field)) xs k d lt))

    bad_place : (x partner : Placed) → IsField fields x → All IsBad (filter (λ field. not (is_place_field rules field partner)) (x ∷ []))
    bad_place x partner h = by (is_place_field rules x partner) refl
      where
        by : (b : Bool) → is_place_field rules x partner ≡ b → All IsBad (cond (not b) (x ∷ []) [])
        by true e = All-nil IsBad
        by false e = All-cons IsBad x [] (h, (or_parts (is_id_field rules x) _ e).0) (All-nil IsBad)

    bad_pairs : (pairs : List PlacedPair) → All (IsField fields) (flat_map both pairs) → All IsBad (flat_map (bad_of_pair rules) pairs)
    bad_pairs [] h = All-nil IsBad
    bad_pairs (pair ∷ pairs) h =
        let rest : All (IsField fields) (pair.1 ∷ flat_map both pairs) = All-tail (IsField fields) pair.0 (pair.1 ∷ flat_map both pairs) h in
        All-append IsBad (bad_of_pair rules pair) (flat_map (bad_of_pair rules) pairs)
        (All-append IsBad (filter (λ field. not (is_place_field rules field pair.1)) (pair.0 ∷ [])) (filter (λ field. not (is_place_field rules field pair.0)) (pair.1 ∷ []))
        (bad_place pair.0 pair.1 (All-head (IsField fields) pair.0 (pair.1 ∷ flat_map both pairs) h))
        (bad_place pair.1 pair.0 (All-head (IsField fields) pair.1 (flat_map both pairs) rest)))
        (bad_pairs pairs (All-tail (IsField fields) pair.1 (flat_map both pairs) rest))

    bad_so : All Reason (alone_at BAD_ID (bad_fields rules parts))
    bad_so =
        All-map Reason (λ (field : Placed). fault_alone BAD_ID field.0) (bad_fields rules parts)
        (All-weaker IsBad (λ field. Reason (fault_alone BAD_ID field.0)) (λ field h. of_bad (fault_alone BAD_ID field.0) refl (field, h.0, refl, h.1)) (bad_fields rules parts)
        (All-append IsBad (bad_names ++ bad_list) (flat_map (bad_of_pair rules) parts.pairs)
        (All-append IsBad bad_names bad_list (bad_among parts.names are_fields.names) (bad_among parts.list are_fields.list)) (bad_pairs parts.pairs are_fields.pairs)))
      where
        bad_names : List Placed
        bad_names = filter (λ field. not (is_id_field rules field)) parts.names

        bad_list : List Placed
        bad_list = filter (λ field. not (is_id_field rules field)) parts.list

    quota_so : All Reason (quota_faults rules parts)
    quota_so = by parts.quota are_fields.quota
      where
        tested : (field : Placed) (o : Option ℕ) → quota_of field.1 ≡ o → IsField fields field
            → All Reason ((if is_some o then [] else record { code = BAD_QUOTA; field = field.0; id = id_among rules parts.names } ∷ []) ++ [])
        tested field (Some n) e h = All-nil Reason
        tested field None e h = All-cons Reason _ [] (of_quota (record { code = BAD_QUOTA; field = field.0; id = id_among rules parts.names }) refl (field, h, refl, e)) (All-nil Reason)

        by : (quota : Option Placed) → All (IsField fields) (option_to_list quota) → All Reason (quota_faults rules (record parts { quota = quota }))
        by None h = All-nil Reason
        by (Some field) h = tested field (quota_of field.1) refl (All-head (IsField fields) field [] h)

    own_so : All Reason (own_faults rules parts)
    own_so =
        All-append Reason (parts.faults ++ alone_at BAD_ID (bad_fields rules parts)) (quota_faults rules parts)
        (All-append Reason parts.faults (alone_at BAD_ID (bad_fields rules parts))
        (form_too Reason (λ n. other UNKNOWN_KIND refl refl refl refl refl refl refl (fault_alone UNKNOWN_KIND n) refl)
        (other FIELD_COUNT refl refl refl refl refl refl refl (fault_alone FIELD_COUNT 0) refl) rules fields)
        bad_so)
        quota_so

    registered_so : (form : Form) → parts.form ≡ form → All Reason (registered_faults rules before (record parts { form = form }))
    registered_so (Registers OfProgram) e =
        All-weaker (Passes fields (λ field. is_id_field rules field && has_id (all_own_ids rules OfProgram before) field.1) DUPLICATE_ID) Reason
        (λ f p. of_registered f p.is_code (λ g. found_id DUPLICATE_ID (all_own_ids rules OfProgram before) f p) (λ g. let x : Registers OfProgram ≡ Registers OfApplicant = sym e ∙ g in absurd cc)
        (λ g. let x : Registers OfProgram ≡ Registers OfCouple = sym e ∙ g in absurd cc)) _
        (all_pass fields (λ field. is_id_field rules field && has_id (all_own_ids rules OfProgram before) field.1) DUPLICATE_ID parts.names are_fields.names)
    registered_so (Registers OfApplicant) e =
        All-weaker (Passes fields (λ field. is_id_field rules field && has_id (all_applicants rules before) field.1) DUPLICATE_ID) Reason
        (λ f p. of_registered f p.is_code (λ g. let x : Registers OfApplicant ≡ Registers OfProgram = sym e ∙ g in absurd cc) (λ g. found_id DUPLICATE_ID (all_applicants rules before) f p)
        (λ g. let x : Registers OfApplicant ≡ Registers OfCouple = sym e ∙ g in absurd cc)) _
        (all_pass fields (λ field. is_id_field rules field && has_id (all_applicants rules before) field.1) DUPLICATE_ID parts.names are_fields.names)
    registered_so (Registers OfCouple) e = by parts.names refl
      where
        of_couple : (f : FieldFault) → f.code ≡ DUPLICATE_ID → IsCoupleBefore rules before parts f ⊎ IsMemberBefore rules before parts f → Reason f
        of_couple f h at =
            of_registered f h (λ g. let x : Registers OfCouple ≡ Registers OfProgram = sym e ∙ g in absurd cc)
            (λ g. let x : Registers OfCouple ≡ Registers OfApplicant = sym e ∙ g in absurd cc) (λ g. at)

        one_so : (ids : List Bytes) (x : Placed)
            → (is_id_field rules x ≡ true → has_id ids x.1 ≡ true → IsCoupleBefore rules before parts (fault_of DUPLICATE_ID x) ⊎ IsMemberBefore rules before parts (fault_of DUPLICATE_ID x))
            → All Reason (found_among rules DUPLICATE_ID ids (x ∷ []))
        one_so ids x reason = tested (is_id_field rules x) (has_id ids x.1) refl refl
          where
            tested : (b c : Bool) → is_id_field rules x ≡ b → has_id ids x.1 ≡ c → All Reason (map (fault_of DUPLICATE_ID) (cond (b && c) (x ∷ []) []))
            tested true true i h = All-cons Reason (fault_of DUPLICATE_ID x) [] (of_couple (fault_of DUPLICATE_ID x) refl (reason i h)) (All-nil Reason)
            tested true false i h = All-nil Reason
            tested false c i h = All-nil Reason

        members_so : (own : Placed) (earlier xs : List Placed) → parts.names ≡ own ∷ (earlier ++ xs) → All Reason (members_before rules (all_applicants rules before ++ contents earlier) xs)
        members_so own earlier [] n = All-nil Reason
        members_so own earlier (x ∷ xs) n =
            All-append Reason (found_among rules DUPLICATE_ID (all_applicants rules before ++ contents earlier) (x ∷ [])) (members_before rules ((all_applicants rules before ++ contents earlier) ++ x.1 ∷ []) xs)
            (one_so (all_applicants rules before ++ contents earlier) x (λ i h. inr (own, earlier, x, xs, n, refl, refl, i, h)))
            (subst (λ (met : List Bytes). All Reason (members_before rules met xs))
            (ap (λ (ys : List Bytes). all_applicants rules before ++ ys) (map-append (λ (y : Placed). y.1) earlier (x ∷ [])) ∙ sym (append_assoc (all_applicants rules before) (contents earlier) (x.1 ∷ [])))
            (members_so own (earlier ++ x ∷ []) xs (n ∙ ap (λ (ys : List Placed). own ∷ ys) (sym (append_assoc earlier (x ∷ []) xs)))))

        by : (names : List Placed) → parts.names ≡ names → All Reason (registered_faults rules before (record parts { form = Registers OfCouple; names = names }))
        by [] n = All-nil Reason
        by (own ∷ members) n =
            All-append Reason (found_among rules DUPLICATE_ID (all_own_ids rules OfCouple before) (own ∷ [])) (members_before rules (all_applicants rules before) members)
            (one_so (all_own_ids rules OfCouple before) own (λ i h. inl (own, members, n, refl, refl, i, h)))
            (subst (λ (met : List Bytes). All Reason (members_before rules met members)) (append-nil (all_applicants rules before)) (members_so own [] members n))
    registered_so (Withdraws kind) e = All-nil Reason
    registered_so Unknown e = All-nil Reason

    -- what stands twice in a list
    repeats_so : (earlier xs : List Placed) → parts.list ≡ earlier ++ xs → All Reason (repeats_after rules (contents earlier) xs)
    repeats_so earlier [] e = All-nil Reason
    repeats_so earlier (x ∷ xs) e =
        All-append Reason (found_among rules DUPLICATE_ENTRY (contents earlier) (x ∷ [])) (repeats_after rules (contents earlier ++ x.1 ∷ []) xs)
        (by (is_id_field rules x) (has_id (contents earlier) x.1) refl refl)
        (subst (λ (met : List Bytes). All Reason (repeats_after rules met xs)) (map-append (λ (y : Placed). y.1) earlier (x ∷ []))
        (repeats_so (earlier ++ x ∷ []) xs (e ∙ sym (append_assoc earlier (x ∷ []) xs))))
      where
        by : (b c : Bool) → is_id_field rules x ≡ b → has_id (contents earlier) x.1 ≡ c → All Reason (map (fault_of DUPLICATE_ENTRY) (cond (b && c) (x ∷ []) []))
        by true true i h =
            All-cons Reason (fault_of DUPLICATE_ENTRY x) [] (of_repeat (fault_of DUPLICATE_ENTRY x) refl (inl (earlier, x, xs, e, refl, refl, i, h))) (All-nil Reason)
        by true false i h = All-nil Reason
        by false c i h = All-nil Reason

    pair_repeats_so : (earlier pairs : List PlacedPair) → parts.pairs ≡ earlier ++ pairs → All Reason (pair_repeats_after rules (map unplaced earlier) pairs)
    pair_repeats_so earlier [] e = All-nil Reason
    pair_repeats_so earlier (p ∷ pairs) e =
        All-append Reason (if is_pair rules (unplaced p) && stands_before then fault ∷ [] else []) (pair_repeats_after rules (map unplaced earlier ++ unplaced p ∷ []) pairs)
        (by (is_pair rules (unplaced p)) stands_before refl refl)
        (subst (λ (met : List (Bytes × Bytes)). All Reason (pair_repeats_after rules met pairs)) (map-append unplaced earlier (p ∷ []))
        (pair_repeats_so (earlier ++ p ∷ []) pairs (e ∙ sym (append_assoc earlier (p ∷ []) pairs))))
      where
        stands_before : Bool
        stands_before = list_any (λ other. is_same_pair (pair_of (unplaced p)) (pair_of other)) (map unplaced earlier)

        fault : FieldFault
        fault = record { code = DUPLICATE_ENTRY; field = p.0.0; id = shown_of_pair p }

        by : (b c : Bool) → is_pair rules (unplaced p) ≡ b → stands_before ≡ c → All Reason (if b && c then fault ∷ [] else [])
        by true true i h = All-cons Reason fault [] (of_repeat fault refl (inr (inl (earlier, p, pairs, e, refl, refl, i, h)))) (All-nil Reason)
        by true false i h = All-nil Reason
        by false c i h = All-nil Reason

    lists_so : (others : List FieldFault) → All Reason others → All Reason (repeats_after rules [] parts.list ++ pair_repeats_after rules [] parts.pairs ++ others)
    lists_so others h =
        All-append Reason (repeats_after rules [] parts.list ++ pair_repeats_after rules [] parts.pairs) others
        (All-append Reason (repeats_after rules [] parts.list) (pair_repeats_after rules [] parts.pairs) (repeats_so [] parts.list refl) (pair_repeats_so [] parts.pairs refl)) h

    repeat_so : (form : Form) → parts.form ≡ form → All Reason (repeat_faults rules before (record parts { form = form }))
    repeat_so (Registers kind) e = lists_so [] (All-nil Reason)
    repeat_so (Withdraws kind) e =
        lists_so (found_among rules DUPLICATE_ENTRY (all_withdrawn rules kind before) parts.names)
        (All-weaker (Passes fields (λ field. is_id_field rules field && has_id (all_withdrawn rules kind before) field.1) DUPLICATE_ENTRY) Reason
        (λ f p. of_repeat f p.is_code (inr (inr (kind, e, found_id DUPLICATE_ENTRY (all_withdrawn rules kind before) f p)))) _
        (all_pass fields (λ field. is_id_field rules field && has_id (all_withdrawn rules kind before) field.1) DUPLICATE_ENTRY parts.names are_fields.names))
    repeat_so Unknown e = lists_so [] (All-nil Reason)

    abbrev missing_test : List Bytes → Placed → Bool
    missing_test ids field = is_id_field rules field && not (has_id ids field.1)

    unknown_so : (form : Form) → parts.form ≡ form → All Reason (unknown_faults rules all (record parts { form = form }))
    unknown_so (Registers OfProgram) e =
        All-weaker (Passes fields (missing_test (all_applicants rules all)) UNKNOWN_APPLICANT) Reason
        (λ f p. of_applicant f p.is_code (missing_id UNKNOWN_APPLICANT (all_applicants rules all) f p)) _
        (all_pass fields (missing_test (all_applicants rules all)) UNKNOWN_APPLICANT parts.list are_fields.list)
    unknown_so (Registers OfApplicant) e =
        All-weaker (Passes fields (missing_test (all_own_ids rules OfProgram all)) UNKNOWN_PROGRAM) Reason
        (λ f p. of_program f p.is_code (missing_id UNKNOWN_PROGRAM (all_own_ids rules OfProgram all) f p)) _
        (all_pass fields (missing_test (all_own_ids rules OfProgram all)) UNKNOWN_PROGRAM parts.list are_fields.list)
    unknown_so (Registers OfCouple) e =
        All-weaker (Passes fields (missing_test (all_own_ids rules OfProgram all)) UNKNOWN_PROGRAM) Reason
        (λ f p. of_program f p.is_code (missing_id UNKNOWN_PROGRAM (all_own_ids rules OfProgram all) f p)) _
        (all_pass fields (missing_test (all_own_ids rules OfProgram all)) UNKNOWN_PROGRAM (flat_map both parts.pairs) are_fields.pairs)
    unknown_so (Withdraws kind) e =
        All-weaker (Passes fields (missing_test (all_own_ids rules kind all)) NOT_REGISTERED) Reason
        (λ f p. of_withdrawal f p.is_code (kind, e, missing_id NOT_REGISTERED (all_own_ids rules kind all) f p)) _
        (all_pass fields (missing_test (all_own_ids rules kind all)) NOT_REGISTERED parts.names are_fields.names)
    unknown_so Unknown e = All-nil Reason

    record_so : All Reason (record_faults rules all before parts)
    record_so =
        All-append Reason (first_faults rules before parts) (unknown_faults rules all parts)
        (All-append Reason (own ++ registered ++ repeats) limits
        (All-append Reason (own ++ registered) repeats (All-append Reason own registered own_so (registered_so parts.form refl)) (repeat_so parts.form refl))
        (All-weaker (OfCode TOO_MANY) Reason (other TOO_MANY refl refl refl refl refl refl refl) limits (limit_code rules before parts)))
        (unknown_so parts.form refl)
      where
        own : List FieldFault
        own = own_faults rules parts

        registered : List FieldFault
        registered = registered_faults rules before parts

        repeats : List FieldFault
        repeats = repeat_faults rules before parts

        limits : List FieldFault
        limits = limit_faults rules before parts

  -- record by record
  faults_so : (every before rows : List (Numbered (List Bytes))) → every ≡ before ++ rows
      → All (IsSo rules every) (faults_after rules (all_parts rules every) (all_parts rules before) rows)
  faults_so every before [] e = All-nil (IsSo rules every)
  faults_so every before (row ∷ rows) e =
      All-append (IsSo rules every) (map (λ (fault : FieldFault). (row.0, fault)) (record_faults rules (all_parts rules every) (all_parts rules before) (parts_of rules row.1)))
      (faults_after rules (all_parts rules every) (all_parts rules before ++ parts_of rules row.1 ∷ []) rows)
      (All-map (IsSo rules every) (λ (fault : FieldFault). (row.0, fault)) (record_faults rules (all_parts rules every) (all_parts rules before) (parts_of rules row.1))
      (All-weaker (HasReason rules (all_parts rules every) (all_parts rules before) row.1) (λ fault. IsSo rules every (row.0, fault))
      (λ fault h. record { before = before; fields = row.1; after = rows; at_record = e; reason = h })
      (record_faults rules (all_parts rules every) (all_parts rules before) (parts_of rules row.1))
      (record_so (all_parts rules every) (all_parts rules before) row.1)))
      (subst (λ (ps : List Parts). All (IsSo rules every) (faults_after rules (all_parts rules every) ps rows)) (map-append (λ (r : Numbered (List Bytes)). parts_of rules r.1) before (row ∷ []))
      (faults_so every (before ++ row ∷ []) rows (e ∙ sym (append_assoc before (row ∷ []) rows))))

pub faults_are_so_lem : FaultsAreSo
faults_are_so_lem rules rows = faults_so rules rows [] rows refl
