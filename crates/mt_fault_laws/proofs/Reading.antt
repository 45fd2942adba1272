-- A record that can be read has the parts that it says, and no fault by itself; one that can't has the fault that a match names
-- first of all. So its faults beside others are those of its parts.
use Rattle.std.proofs.Common.{◌≡◌, ℕ, ◌+◌, Bool, true, false, not, ◌||◌, ◌&&◌, List, [], ◌∷◌, ◌++◌, map, filter, Option, Some, None, Result, Ok, Err, refl, cond, ap, sym, ◌∙◌, subst}
use Rattle.std.specs.Prelude.{bytes_eq, option_map, option_to_list, flat_map, if◌then◌else◌}
use Rattle.std.specs.Bool.{then_some}
use Rattle.std.specs.List.{list_all, list_any}
use Rattle.std.proofs.lemmas.Bool.{and_parts}
use Rattle.std.proofs.lemmas.List.{append-nil, append_assoc, map-append}
use Rattle.mt_terms.specs.declared.codes.TheConstants.{BAD_ID, DUPLICATE_ID, DUPLICATE_ENTRY}
use Rattle.mt_terms.specs.Registration.Ids.{Bytes, is_id, is_dash, has_id, all_differ}
use Rattle.mt_terms.specs.Registration.Faults.{RecordFault, record_fault, record_fault_alone}
use Rattle.mt_terms.specs.Registration.Records.{Rules, Record, Kind, IdPair, is_pair, pair_of}
use Rattle.mt_terms.specs.Registration.Rows.{id_of, own_id, ids_of, withdrawn_id, withdrawn, applicants_of, applicant_ids, entries_of, entry_count}
use Rattle.mt_terms.specs.Registration.Passes.{contents, first_of, first_in, first_not_in, named, is_same_pair, registered_before, says_twice, unknown_id}
use Rattle.mt_terms.proofs.ListFacts.{list_any-map}
use Rattle.mt_terms.proofs.IdFacts.{bytes_eq_sym}
use Rattle.mt_fault_terms.specs.Faults.{Placed, FieldFault, fault_of}
use Rattle.mt_fault_terms.specs.Parts.{Parts, PlacedPair, ids_among, own_ids, applicants_among, withdrawn_ids, entries_among, all_own_ids, all_applicants, all_withdrawn, all_entries}
use Rattle.mt_fault_terms.specs.OfRecord.{is_id_field, alone_at, bad_of_pair, bad_fields, id_among, quota_faults, own_faults, found_among, missing_among, registered_faults, repeats_after, shown_of_pair, pair_repeats_after, repeat_faults, unknown_faults}
use Rattle.mt_fault_laws.proofs.Leading.{Leads, Shows, leads_next, leads_last, leads_front}
use Rattle.mt_fault_laws.proofs.Alike.{once_more, twice, same_pair, no_dash, place_ids}

-- two placed fields as a pair of fields
abbrev pub bare : PlacedPair → Bytes × Bytes
bare pair = (pair.0.1, pair.1.1)

-- the fields of pairs, one after another
abbrev pub both : PlacedPair → List Placed
both pair = pair.0 ∷ pair.1 ∷ []

abbrev pub none : {X : Type 0} → List X → Bool
none [] = true
none (x ∷ xs) = false

pub none-append : {X : Type 0} (xs ys : List X) → none (xs ++ ys) ≡ (none xs && none ys)
none-append [] ys = refl
none-append (x ∷ xs) ys = refl

-- parts that register and withdraw what records do
pub record Agree (rules : Rules) (parts : List Parts) (records : List Record) : Type 0 where
  pub own : (kind : Kind) → all_own_ids rules kind parts ≡ ids_of kind records
  pub applicants : all_applicants rules parts ≡ applicant_ids records
  pub withdrawn_too : (kind : Kind) → all_withdrawn rules kind parts ≡ withdrawn kind records
  pub entries : all_entries parts ≡ entry_count records

-- the parts of a record that is read
pub record IsRead (rules : Rules) (parts : Parts) (r : Record) : Type 0 where
  pub clean : own_faults rules parts ≡ []
  pub id : id_among rules parts.names ≡ id_of r
  pub own : (kind : Kind) → own_ids rules kind parts ≡ option_to_list (own_id kind r)
  pub applicants : applicants_among rules parts ≡ applicants_of r
  pub withdrawn_too : (kind : Kind) → withdrawn_ids rules kind parts ≡ option_to_list (withdrawn_id kind r)
  pub entries : entries_among parts ≡ entries_of r
  pub registered : (before : List Parts) (records : List Record) → Agree rules before records
      → Leads Shows (option_map (record_fault DUPLICATE_ID) (registered_before records r)) (registered_faults rules before parts)
  pub repeated : (before : List Parts) (records : List Record) → Agree rules before records
      → Leads Shows (then_some (says_twice records r) (record_fault DUPLICATE_ENTRY (id_of r))) (repeat_faults rules before parts)
  pub unknown : (all : List Parts) (records : List Record) → Agree rules all records → Leads Shows (unknown_id records r) (unknown_faults rules all parts)

-- parts beside a record as it is read, or the fault that a match names
abbrev pub Reads : Rules → Parts → Result Record RecordFault → Type 0
Reads rules parts (Ok r) = IsRead rules parts r
Reads rules parts (Err c) = Leads Shows (Some c) (own_faults rules parts)

-- by the rules of a version
module _ (rules : Rules) where
  abbrev pub an_id : Bytes → Bool
  an_id field = is_id rules.limits.id_bytes field

  -- fields that aren't ids, and pairs that aren't
  pub none-bad : (fields : List Placed) → none (filter (λ field. not (is_id_field rules field)) fields) ≡ list_all an_id (contents fields)
  none-bad [] = refl
  none-bad (f ∷ fields) = by (an_id f.1) (none-bad fields)
    where
      by : (b : Bool) → none (filter (λ field. not (is_id_field rules field)) fields) ≡ list_all an_id (contents fields)
          → none (cond (not b) (f ∷ filter (λ field. not (is_id_field rules field)) fields) (filter (λ field. not (is_id_field rules field)) fields)) ≡ (b && list_all an_id (contents fields))
      by true ih = ih
      by false ih = refl

  none-bad_of_pair : (p : PlacedPair) → none (bad_of_pair rules p) ≡ is_pair rules (bare p)
  none-bad_of_pair p = by (an_id p.0.1) (an_id p.1.1) rules.half_pairs (is_dash p.0.1) (is_dash p.1.1) (dash p.0.1) (dash p.1.1)
    where
      dash : (field : Bytes) → an_id field ≡ true → is_dash field ≡ false
      dash field h = no_dash rules.limits.id_bytes field h

      by : (i j w d e : Bool) → (i ≡ true → d ≡ false) → (j ≡ true → e ≡ false)
          → none (cond (not (i || (w && d && not e))) (p.0 ∷ []) [] ++ cond (not (j || (w && e && not d))) (p.1 ∷ []) []) ≡ ((i && j) || (w && ((i && e) || (d && j))))
      by true true w d e f g = refl
      by true false w true e f g = let x : true ≡ false = f refl in cc
      by true false true false true f g = refl
      by true false true false false f g = refl
      by true false false false e f g = refl
      by false true w d true f g = let x : true ≡ false = g refl in cc
      by false true true true false f g = refl
      by false true true false false f g = refl
      by false true false d false f g = refl
      by false false true true true f g = refl
      by false false true true false f g = refl
      by false false true false true f g = refl
      by false false true false false f g = refl
      by false false false d e f g = refl

  pub none-bad_pairs : (pairs : List PlacedPair) → none (flat_map (bad_of_pair rules) pairs) ≡ list_all (is_pair rules) (map bare pairs)
  none-bad_pairs [] = refl
  none-bad_pairs (p ∷ pairs) =
      none-append (bad_of_pair rules p) (flat_map (bad_of_pair rules) pairs)
      ∙ ap (λ b. b && none (flat_map (bad_of_pair rules) pairs)) (none-bad_of_pair p)
      ∙ ap (λ b. is_pair rules (bare p) && b) (none-bad_pairs pairs)

  -- the faults that a record has by itself begin with those of its fields
  bad_leads : (ok : Bool) (bad : List Placed) → none bad ≡ ok → Leads Shows (then_some (not ok) (record_fault_alone BAD_ID)) (alone_at BAD_ID bad)
  bad_leads true [] h = tt
  bad_leads true (f ∷ bad) h = cc
  bad_leads false [] h = cc
  bad_leads false (f ∷ bad) h = (refl, λ k. refl)

  pub own_leads : (parts : Parts) (ok : Bool) (o : Option RecordFault) → parts.faults ≡ [] → none (bad_fields rules parts) ≡ ok → Leads Shows o (quota_faults rules parts)
      → Leads Shows (first_of (then_some (not ok) (record_fault_alone BAD_ID) ∷ o ∷ [])) (own_faults rules parts)
  own_leads parts ok o none_else h k =
      rw none_else (leads_next Shows (then_some (not ok) (record_fault_alone BAD_ID)) (o ∷ []) (alone_at BAD_ID (bad_fields rules parts)) (quota_faults rules parts) (bad_leads ok (bad_fields rules parts) h) (leads_last Shows o (quota_faults rules parts) k))

  pub own_bad : (parts : Parts) → parts.faults ≡ [] → none (bad_fields rules parts) ≡ false → Leads Shows (Some (record_fault_alone BAD_ID)) (own_faults rules parts)
  own_bad parts none_else h =
      rw none_else (leads_front Shows (record_fault_alone BAD_ID) (alone_at BAD_ID (bad_fields rules parts)) (quota_faults rules parts) (bad_leads false (bad_fields rules parts) h))

  -- ids of placed fields
  pub one_among : (field : Placed) → an_id field.1 ≡ true → ids_among rules (field ∷ []) ≡ field.1 ∷ []
  one_among field h = rw h refl

  pub two_among : (a b : Placed) → an_id a.1 ≡ true → an_id b.1 ≡ true → ids_among rules (a ∷ b ∷ []) ≡ a.1 ∷ b.1 ∷ []
  two_among a b h k = rw (h, k) refl

  pub first_among : (field : Placed) (fields : List Placed) → an_id field.1 ≡ true → id_among rules (field ∷ fields) ≡ field.1
  first_among field fields h = rw h refl

  -- an id that is found among others
  pub found_leads : (code : ℕ) (ids : List Bytes) (field : Placed) → an_id field.1 ≡ true
      → Leads Shows (option_map (record_fault code) (first_in ids (field.1 ∷ []))) (found_among rules code ids (field ∷ []))
  found_leads code ids field h = by (an_id field.1) (has_id ids field.1) h
    where
      by : (a b : Bool) → a ≡ true → Leads Shows (option_map (record_fault code) (cond b (Some field.1) None)) (map (fault_of code) (cond (a && b) (field ∷ []) []))
      by true true h = (refl, λ k. refl)
      by true false h = tt
      by false b h = cc

  -- the entries that stand twice
  pub repeats_lead : (id : Bytes) (before : List Bytes) (fields : List Placed) → list_all an_id (contents fields) ≡ true → all_differ bytes_eq before ≡ true
      → Leads Shows (then_some (not (all_differ bytes_eq (before ++ contents fields))) (record_fault DUPLICATE_ENTRY id)) (repeats_after rules before fields)
  repeats_lead id before [] h d = rw (append-nil before, d) tt
  repeats_lead id before (f ∷ fields) h d =
      let p : (an_id f.1 ≡ true) × (list_all an_id (contents fields) ≡ true) = and_parts (an_id f.1) _ h in
      by (an_id f.1) (has_id before f.1) p.0 refl (λ e. repeats_lead id (before ++ f.1 ∷ []) fields p.1 e)
    where
      rest : List FieldFault
      rest = repeats_after rules (before ++ f.1 ∷ []) fields

      by : (a b : Bool) → a ≡ true → has_id before f.1 ≡ b
          → (all_differ bytes_eq (before ++ f.1 ∷ []) ≡ true → Leads Shows (then_some (not (all_differ bytes_eq ((before ++ f.1 ∷ []) ++ contents fields))) (record_fault DUPLICATE_ENTRY id)) rest)
          → Leads Shows (then_some (not (all_differ bytes_eq (before ++ f.1 ∷ contents fields))) (record_fault DUPLICATE_ENTRY id)) (map (fault_of DUPLICATE_ENTRY) (cond (a && b) (f ∷ []) []) ++ rest)
      by true true i e ih = rw (twice bytes_eq bytes_eq_sym before f.1 (contents fields) e) (refl, λ k. absurd cc)
      by true false i e ih =
          subst (λ (xs : List Bytes). Leads Shows (then_some (not (all_differ bytes_eq xs)) (record_fault DUPLICATE_ENTRY id)) rest)
          (append_assoc before (f.1 ∷ []) (contents fields)) (ih (once_more bytes_eq bytes_eq_sym before f.1 e d))
      by false b i e ih = cc

  -- the pairs that stand twice
  pub pair_repeats_lead : (id : Bytes) (before : List (Bytes × Bytes)) (pairs : List PlacedPair) → list_all (is_pair rules) (map bare pairs) ≡ true → all_differ is_same_pair (map pair_of before) ≡ true
      → Leads Shows (then_some (not (all_differ is_same_pair (map pair_of before ++ map pair_of (map bare pairs)))) (record_fault DUPLICATE_ENTRY id)) (pair_repeats_after rules before pairs)
  pair_repeats_lead id before [] h d = rw (append-nil (map pair_of before), d) tt
  pair_repeats_lead id before (p ∷ pairs) h d =
      let q : (is_pair rules (bare p) ≡ true) × (list_all (is_pair rules) (map bare pairs) ≡ true) = and_parts (is_pair rules (bare p)) _ h in
      by (is_pair rules (bare p)) (list_any (λ other. is_same_pair (pair_of (bare p)) (pair_of other)) before) q.0 (list_any-map (is_same_pair (pair_of (bare p))) pair_of before)
      (λ e. pair_repeats_lead id (before ++ bare p ∷ []) pairs q.1 e)
    where
      rest : List FieldFault
      rest = pair_repeats_after rules (before ++ bare p ∷ []) pairs

      later : List IdPair
      later = map pair_of (map bare pairs)

      pushed : map pair_of (before ++ bare p ∷ []) ≡ map pair_of before ++ pair_of (bare p) ∷ []
      pushed = map-append pair_of before (bare p ∷ [])

      by : (a b : Bool) → a ≡ true → list_any (is_same_pair (pair_of (bare p))) (map pair_of before) ≡ b
          → (all_differ is_same_pair (map pair_of (before ++ bare p ∷ [])) ≡ true
          → Leads Shows (then_some (not (all_differ is_same_pair (map pair_of (before ++ bare p ∷ []) ++ later))) (record_fault DUPLICATE_ENTRY id)) rest)
          → Leads Shows (then_some (not (all_differ is_same_pair (map pair_of before ++ pair_of (bare p) ∷ later))) (record_fault DUPLICATE_ENTRY id))
          (cond (a && b) (record { code = DUPLICATE_ENTRY; field = p.0.0; id = shown_of_pair p } ∷ []) [] ++ rest)
      by true true i e ih = rw (twice is_same_pair same_pair (map pair_of before) (pair_of (bare p)) later e) (refl, λ k. absurd cc)
      by true false i e ih =
          subst (λ (xs : List IdPair). Leads Shows (then_some (not (all_differ is_same_pair xs)) (record_fault DUPLICATE_ENTRY id)) rest)
          (ap (λ (xs : List IdPair). xs ++ later) pushed ∙ append_assoc (map pair_of before) (pair_of (bare p) ∷ []) later)
          (ih (ap (all_differ is_same_pair) pushed ∙ once_more is_same_pair same_pair (map pair_of before) (pair_of (bare p)) e d))
      by false b i e ih = cc

  -- a field more that is no id of these, or a `-`
  missing_more : (code : ℕ) (ids : List Bytes) (f : Placed) (others : List Bytes) (fields : List Placed) → an_id f.1 ≡ not (is_dash f.1)
      → Leads Shows (option_map (record_fault code) (first_not_in ids others)) (missing_among rules code ids fields)
      → Leads Shows (option_map (record_fault code) (first_not_in ids (option_to_list (cond (is_dash f.1) None (Some f.1)) ++ others))) (missing_among rules code ids (f ∷ fields))
  missing_more code ids f others fields h ih = by (an_id f.1) (is_dash f.1) (has_id ids f.1) h
    where
      rest : List Placed
      rest = filter (λ field. is_id_field rules field && not (has_id ids field.1)) fields

      found : (a b : Bool) → a ≡ true → Leads Shows (option_map (record_fault code) (cond (not b) (Some f.1) (first_not_in ids others))) (map (fault_of code) (cond (a && not b) (f ∷ rest) rest))
      found true true i = ih
      found true false i = (refl, λ k. refl)
      found false b i = cc

      by : (a d b : Bool) → a ≡ not d → Leads Shows (option_map (record_fault code) (first_not_in ids (option_to_list (cond d None (Some f.1)) ++ others))) (map (fault_of code) (cond (a && not (has_id ids f.1)) (f ∷ rest) rest))
      by true true b e = cc
      by true false b e = found true (has_id ids f.1) refl
      by false true b e = ih
      by false false b e = cc

  -- the entries that are no ids of these
  pub missing_lead : (code : ℕ) (ids : List Bytes) (fields : List Placed) → list_all an_id (contents fields) ≡ true
      → Leads Shows (option_map (record_fault code) (first_not_in ids (contents fields))) (missing_among rules code ids fields)
  missing_lead code ids [] h = tt
  missing_lead code ids (f ∷ fields) h =
      let p : (an_id f.1 ≡ true) × (list_all an_id (contents fields) ≡ true) = and_parts (an_id f.1) _ h in
      let d : is_dash f.1 ≡ false = no_dash rules.limits.id_bytes f.1 p.0 in
      let more = missing_more code ids f (contents fields) fields (p.0 ∙ ap not (sym d)) (missing_lead code ids fields p.1) in
      subst (λ (b : Bool). Leads Shows (option_map (record_fault code) (first_not_in ids (option_to_list (cond b None (Some f.1)) ++ contents fields))) (missing_among rules code ids (f ∷ fields))) d more

  pub missing_pairs_lead : (code : ℕ) (ids : List Bytes) (pairs : List PlacedPair) → list_all (is_pair rules) (map bare pairs) ≡ true
      → Leads Shows (option_map (record_fault code) (first_not_in ids (flat_map named (map pair_of (map bare pairs))))) (missing_among rules code ids (flat_map both pairs))
  missing_pairs_lead code ids [] h = tt
  missing_pairs_lead code ids (p ∷ pairs) h =
      let q : (is_pair rules (bare p) ≡ true) × (list_all (is_pair rules) (map bare pairs) ≡ true) = and_parts (is_pair rules (bare p)) _ h in
      let places = place_ids rules (bare p) q.0 in
      let second = missing_more code ids p.1 others (flat_map both pairs) places.1 (missing_pairs_lead code ids pairs q.1) in
      let first = missing_more code ids p.0 (place p.1.1 ++ others) (p.1 ∷ flat_map both pairs) places.0 second in
      subst (λ (xs : List Bytes). Leads Shows (option_map (record_fault code) (first_not_in ids xs)) (missing_among rules code ids (p.0 ∷ p.1 ∷ flat_map both pairs)))
      (sym (append_assoc (place p.0.1) (place p.1.1) others)) first
    where
      others : List Bytes
      others = flat_map named (map pair_of (map bare pairs))

      place : Bytes → List Bytes
      place field = option_to_list (cond (is_dash field) None (Some field))
