-- What each loop of the search keeps, and how one turn changes it.
-- A sink got the faults of what is done. What is left decides the others.
use Rattle.std.proofs.Common.{◌≡◌, ℕ, ◌+◌, Bool, true, false, ◌&&◌, List, [], ◌∷◌, ◌++◌, cond, length, Option, Some, None, Ok, Err, refl, ap, sym, ap₂, ◌∙◌, if◌then◌else◌}
use Rattle.std.specs.Prelude.{flat_map, Result}
use Rattle.std.specs.Option.{option_map_or}
use Rattle.std.specs.List.{list_any}
use Rattle.std.proofs.lemmas.List.{append_assoc, append-nil, map-append}
use Rattle.mt_terms.specs.declared.codes.TheConstants.{BAD_ID, DUPLICATE_ENTRY, NO_VERSION}
use Rattle.mt_terms.specs.Registration.Ids.{Bytes, has_id, is_id}
use Rattle.mt_terms.specs.Registration.Passes.{Numbered, numbered_from, is_same_pair}
use Rattle.mt_terms.specs.Registration.Records.{Rules, IdPair, is_pair, pair_of, rules_of}
use Rattle.mt_records.specs.Bodies.{body_in}
use Rattle.mt_fault_terms.specs.Faults.{FieldFault, FileFault, Placed, fault_alone, fault_of}
use Rattle.mt_fault_terms.specs.OfFile.{all_parts, faults_after, faults_of_numbered, faults_under}
use Rattle.mt_fault_terms.specs.OfRecord.{alone_at, bad_of_pair, is_id_field, is_place_field, pair_repeats_after, record_faults, repeats_after, shown_of_pair}
use Rattle.mt_fault_terms.specs.Parts.{Parts, PlacedPair, ids_among, parts_of}
use Rattle.mt_fault_sink.specs.declared.fault.FaultEnd.{FaultEnd}
use Rattle.mt_fault_sink.specs.Telling.{Tells, at_record}
use Rattle.mt_fault_sink.proofs.TellingFacts.{SoFar, ends_early, goes}
use Rattle.mt_faults.specs.declared.finder.Finder.{Finder}
use Rattle.mt_faults.specs.Registered.{row_parts}
use Rattle.mt_faults.specs.Repeated.{repeated}
use Rattle.mt_faults.specs.Standing.{Stands, row_faults}
use Rattle.mt_faults.proofs.RecordFacts.{Alike, PairsAlike, bad_pair, fields_of, found_one}

-- faults of a record in two parts
pub in_two : (n : ℕ) (whole some rest told : List FieldFault) → whole ≡ some ++ rest → told ≡ some → at_record n whole ≡ at_record n told ++ at_record n rest
in_two n whole some rest told w t = ap (at_record n) (w ∙ ap (λ fs. fs ++ rest) (sym t)) ∙ map-append (λ (fault : FieldFault). (n, fault)) told rest

module _ {S : Type 0} {takes : S → Type 0} {told stopped : S → S → List FileFault → Type 0} where
  -- a sink gets the next faults of a record, or the search ends at one of them
  pub tells_next : {a b : S} {whole : List FileFault} (n : ℕ) (c : S) (some rest given : List FieldFault) → SoFar takes told stopped a b (at_record n (some ++ rest)) whole
      → takes c × told b c (at_record n given) → given ≡ some → SoFar takes told stopped a c (at_record n rest) whole
  tells_next n c some rest given s t same = goes c (at_record n given) (at_record n rest) s t (in_two n (some ++ rest) some rest given refl same)

  pub ends_at : {a b : S} {whole : List FileFault} (n : ℕ) (c : S) (some rest given : List FieldFault) (e : FaultEnd) (r : Result (Unit {0}) FaultEnd) → SoFar takes told stopped a b (at_record n (some ++ rest)) whole
      → Tells {X = Unit {0}} takes told stopped b c (at_record n given) (Err e) → given ≡ some → r ≡ Err e → Tells {X = Unit {0}} takes told stopped a c whole r
  ends_at n c some rest given e r s t same is = ends_early c (at_record n given) (at_record n rest) e r s t (in_two n (some ++ rest) some rest given refl same) is

-- the faults of the next element of a list
pub next_of : {X : Type 0} (n : ℕ) (f : X → List FieldFault) (all rest : List X) (x : X) (told : List FieldFault) → all ≡ x ∷ rest → told ≡ f x
    → at_record n (flat_map f all) ≡ at_record n told ++ at_record n (flat_map f rest)
next_of n f all rest x told a t = in_two n (flat_map f all) (f x) (flat_map f rest) told (ap (flat_map f) a) t

-- the ids among fields: the next one, if it is an id, and the others
pub an_id : (rules : Rules) (x : Placed) → is_id rules.limits.id_bytes x.1 ≡ true → ids_among rules (x ∷ []) ≡ x.1 ∷ []
an_id rules x h = rw h refl

pub no_id : (rules : Rules) (x : Placed) → is_id rules.limits.id_bytes x.1 ≡ false → ids_among rules (x ∷ []) ≡ []
no_id rules x h = rw h refl

pub next_id : (rules : Rules) (all rest : List Placed) (x : Placed) → all ≡ x ∷ rest → ids_among rules all ≡ ids_among rules (x ∷ []) ++ ids_among rules rest
next_id rules all rest x a = ap (ids_among rules) a ∙ by (is_id rules.limits.id_bytes x.1)
  where
    by : (b : Bool) → cond b (x.1 ∷ ids_among rules rest) (ids_among rules rest) ≡ cond b (x.1 ∷ []) [] ++ ids_among rules rest
    by true = refl
    by false = refl

module _ {S : Type 0} (takes : S → Type 0) (told stopped : S → S → List FileFault → Type 0) where
  -- the entries of a list before those that are left, and the faults told of them
  pub record Repeats (a b : S) (n : ℕ) (rules : Rules) (table : List Bytes) (left : List Placed) (whole : List FileFault) : Type 0 where
    pub before : List Bytes
    pub alike : Alike rules table before
    pub so_far : SoFar takes told stopped a b (at_record n (repeats_after rules before left)) whole

  -- the same of pairs
  pub record PairRepeats (a b : S) (n : ℕ) (rules : Rules) (table : List IdPair) (left : List PlacedPair) (whole : List FileFault) : Type 0 where
    pub before : List (Bytes × Bytes)
    pub alike : PairsAlike table before
    pub so_far : SoFar takes told stopped a b (at_record n (pair_repeats_after rules before left)) whole

  -- the records before those that are left, and the faults told of them
  pub record Rows (a b : S) (rules : Rules) (finder : Finder) (all : List Parts) (left : List (Numbered (List Bytes))) (whole : List FileFault) : Type 0 where
    pub before : List Parts
    pub stands : Stands finder all before
    pub rest : all ≡ before ++ all_parts rules left
    pub so_far : SoFar takes told stopped a b (faults_after rules all before left) whole

-- a repeated entry, as a sink gets it
pub repeated_is : (rules : Rules) (table before : List Bytes) (x : Placed) → Alike rules table before
    → (rest : List Placed) → repeats_after rules before (x ∷ rest) ≡ repeated rules table x ++ repeats_after rules (before ++ x.1 ∷ []) rest
repeated_is rules table before x alike rest =
    ap (λ l. l ++ repeats_after rules (before ++ x.1 ∷ []) rest) (found_one rules DUPLICATE_ENTRY before x ∙ by (is_id_field rules x) refl)
  where
    by : (b : Bool) → is_id_field rules x ≡ b → (if b && has_id before x.1 then fault_of DUPLICATE_ENTRY x ∷ [] else []) ≡ (if b && has_id table x.1 then fault_of DUPLICATE_ENTRY x ∷ [] else [])
    by true e = ap (λ b. if b then fault_of DUPLICATE_ENTRY x ∷ [] else []) (sym (alike x.1 e))
    by false e = refl

pub repeated_none : (rules : Rules) (table : List Bytes) (x : Placed) → is_id_field rules x ≡ false → repeated rules table x ≡ []
repeated_none rules table x h = ap (λ b. if b && has_id table x.1 then fault_of DUPLICATE_ENTRY x ∷ [] else []) h

pub repeated_id : (rules : Rules) (table : List Bytes) (x : Placed) → is_id_field rules x ≡ true → repeated rules table x ≡ (if has_id table x.1 then fault_of DUPLICATE_ENTRY x ∷ [] else [])
repeated_id rules table x h = ap (λ b. if b && has_id table x.1 then fault_of DUPLICATE_ENTRY x ∷ [] else []) h

-- a repeated pair, as a sink gets it
pub repeated_pair_is : (rules : Rules) (table : List IdPair) (before : List (Bytes × Bytes)) (x : PlacedPair) (first : Bool) (fs : List FieldFault) → PairsAlike table before
    → first ≡ list_any (is_same_pair (pair_of (fields_of x))) table
    → fs ≡ (if is_pair rules (fields_of x) && first then record { code = DUPLICATE_ENTRY; field = x.0.0; id = shown_of_pair x } ∷ [] else [])
    → (rest : List PlacedPair) → pair_repeats_after rules before (x ∷ rest) ≡ fs ++ pair_repeats_after rules (before ++ fields_of x ∷ []) rest
repeated_pair_is rules table before x first fs alike f is rest =
    ap (λ l. l ++ pair_repeats_after rules (before ++ fields_of x ∷ []) rest)
    (ap (λ b. if is_pair rules (fields_of x) && b then record { code = DUPLICATE_ENTRY; field = x.0.0; id = shown_of_pair x } ∷ [] else []) (sym (f ∙ alike (pair_of (fields_of x)))) ∙ sym is)

-- the records of rows, one row after another
pub numbered_parts : (rules : Rules) (n : ℕ) (row : List Bytes) (rows : List (List Bytes)) → all_parts rules (numbered_from n (row ∷ rows)) ≡ row_parts rules row ++ all_parts rules (numbered_from (n + 1) rows)
numbered_parts rules n [] rows = refl
numbered_parts rules n (word ∷ fields) rows = refl

pub numbered_faults : (rules : Rules) (all before : List Parts) (n : ℕ) (row : List Bytes) (rows : List (List Bytes)) → faults_after rules all before (numbered_from n (row ∷ rows))
    ≡ row_faults rules all before n row ++ faults_after rules all (before ++ row_parts rules row) (numbered_from (n + 1) rows)
numbered_faults rules all before n [] rows = ap (λ ps. faults_after rules all ps (numbered_from (n + 1) rows)) (sym (append-nil before))
numbered_faults rules all before n (word ∷ fields) rows = refl

-- the bad fields of the next pair, as a sink gets them
pub bad_pair_next : (rules : Rules) (all rest : List PlacedPair) (pair : PlacedPair) (one two : List FieldFault) → all ≡ pair ∷ rest
    → one ≡ (if is_place_field rules pair.0 pair.1 then [] else fault_alone BAD_ID pair.0.0 ∷ []) → two ≡ (if is_place_field rules pair.1 pair.0 then [] else fault_alone BAD_ID pair.1.0 ∷ [])
    → alone_at BAD_ID (flat_map (bad_of_pair rules) all) ≡ one ++ (two ++ alone_at BAD_ID (flat_map (bad_of_pair rules) rest))
bad_pair_next rules all rest pair one two a o t =
    ap (λ ps. alone_at BAD_ID (flat_map (bad_of_pair rules) ps)) a
    ∙ map-append (λ (field : Placed). fault_alone BAD_ID field.0) (bad_of_pair rules pair) (flat_map (bad_of_pair rules) rest)
    ∙ ap (λ l. l ++ alone_at BAD_ID (flat_map (bad_of_pair rules) rest)) (bad_pair rules pair ∙ ap₂ (λ (x y : List FieldFault). x ++ y) (sym o) (sym t))
    ∙ append_assoc one two (alone_at BAD_ID (flat_map (bad_of_pair rules) rest))

-- a row with some field
pub row_some : (rules : Rules) (row : List Bytes) → (length row ≡ 0 → ⊥) → row_parts rules row ≡ parts_of rules row ∷ []
row_some rules [] some = absurd (some refl)
row_some rules (word ∷ fields) some = refl

pub faults_some : (rules : Rules) (all before : List Parts) (n : ℕ) (row : List Bytes) → (length row ≡ 0 → ⊥) → row_faults rules all before n row ≡ at_record n (record_faults rules all before (parts_of rules row))
faults_some rules all before n [] some = absurd (some refl)
faults_some rules all before n (word ∷ fields) some = refl

-- what follows the record that names a version decides
pub faults_there : (rules : Rules) (rest records : List (Numbered (List Bytes))) → body_in records ≡ Ok (rules, rest) → faults_of_numbered records ≡ faults_under rules rest
faults_there rules rest [] h = cc
faults_there rules rest (row ∷ rows) h = by (rules_of row.1) h
  where
    by : (o : Option Rules) → option_map_or {U = Result (Rules × List (Numbered (List Bytes))) ℕ} (λ r. Ok (r, rows)) o (Err row.0) ≡ Ok (rules, rest)
        → option_map_or (λ r. faults_under r rows) o ((row.0, fault_alone NO_VERSION 0) ∷ []) ≡ faults_under rules rest
    by None k = cc
    by (Some r) k = let same : (rules, rest) ≡ (r, rows) = cc in ap (λ (x : Rules × List (Numbered (List Bytes))). faults_under x.0 x.1) (sym same)

-- if no record names a version, that is the only fault
pub only_fault : (records : List (Numbered (List Bytes))) (n : ℕ) → body_in records ≡ Err n → faults_of_numbered records ≡ (n, fault_alone NO_VERSION 0) ∷ []
only_fault [] n h = let e : 0 ≡ n = cc in ap (λ (k : ℕ). (k, fault_alone NO_VERSION 0) ∷ []) e
only_fault (row ∷ rows) n h = by (rules_of row.1) h
  where
    by : (o : Option Rules) → option_map_or {U = Result (Rules × List (Numbered (List Bytes))) ℕ} (λ r. Ok (r, rows)) o (Err row.0) ≡ Err n
        → option_map_or (λ r. faults_under r rows) o ((row.0, fault_alone NO_VERSION 0) ∷ []) ≡ (n, fault_alone NO_VERSION 0) ∷ []
    by None k = let e : row.0 ≡ n = cc in ap (λ (i : ℕ). (i, fault_alone NO_VERSION 0) ∷ []) e
    by (Some r) k = cc
