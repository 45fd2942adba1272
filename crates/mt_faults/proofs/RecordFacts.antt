-- The faults of one record in the order in which a sink gets them.
-- A test of one field gives its faults, and the lists of faults are regrouped from the first on.
use Rattle.std.proofs.Common.{◌≡◌, ℕ, ◌≤◌, Bool, true, false, not, ◌&&◌, ◌||◌, cond, List, [], ◌∷◌, ◌++◌, length, take, drop, map, filter, Bor, Some, refl, ap, ap₂, sym, ◌∙◌, arith, if◌then◌else◌}
use Rattle.std.specs.Prelude.{bytes_eq, flat_map}
use Rattle.std.specs.List.{list_any}
use Rattle.std.proofs.lemmas.List.{append_assoc, append-nil, map-append}
use Rattle.std.proofs.lemmas.List.Elements.{filter_agree}
use Rattle.std.proofs.lemmas.List.Folds.{list_any-append}
use Rattle.std.proofs.lemmas.Bool.{false_from_ne_true}
use Rattle.mt_terms.proofs.IdFacts.{same_id}
use Rattle.mt_terms.specs.declared.codes.TheConstants.{BAD_ID, DUPLICATE_ID, DUPLICATE_ENTRY, NOT_REGISTERED, TOO_MANY, UNKNOWN_APPLICANT, UNKNOWN_PROGRAM}
use Rattle.mt_terms.specs.Registration.Ids.{Bytes, has_id, is_id}
use Rattle.mt_terms.specs.Registration.Passes.{is_same_pair}
use Rattle.mt_terms.specs.Registration.Records.{Rules, Kind, IdPair, OfProgram, OfApplicant, OfCouple, pair_of}
use Rattle.mt_terms.specs.Lists.{head}
use Rattle.mt_passes.proofs.RepeatFacts.{same_pairs}
use Rattle.mt_fault_terms.specs.Faults.{FieldFault, Placed, fault_alone, fault_of}
use Rattle.mt_fault_terms.specs.OfRecord.{is_id_field, is_place_field, alone_at, bad_of_pair, quota_faults, own_faults, found_among, missing_among, members_before, registered_faults, repeat_faults, limit_faults, unknown_faults, record_faults}
use Rattle.mt_fault_terms.specs.Parts.{Form, Parts, PlacedPair, Registers, Unknown, Withdraws, all_applicants, all_own_ids, all_withdrawn}
use Rattle.mt_faults.specs.declared.tell.Wrong.TheVariants as wrongs
use Rattle.mt_faults.specs.Names.{members_of}
use Rattle.mt_faults.specs.Repeated.{entries_with, repeats_in_list}
use Rattle.mt_faults.specs.Seen.{tested}
use Rattle.mt_faults.specs.Standing.{own_again, withdrawn_again}
use Rattle.mt_faults.proofs.AddedFacts.{has_id-added}
use Rattle.mt_faults.proofs.PartsFacts.{both_of}

-- the elements that pass a test, each as what a function gives
by_test : {X A : Type 0} (is : X → Bool) (f : X → A) (xs : List X) → flat_map (λ x. if is x then f x ∷ [] else []) xs ≡ map f (filter is xs)
by_test is f [] = refl
by_test is f (x ∷ xs) = by (is x) (by_test is f xs)
  where
    by : (b : Bool) → flat_map (λ y. if is y then f y ∷ [] else []) xs ≡ map f (filter is xs)
        → (if b then f x ∷ [] else []) ++ flat_map (λ y. if is y then f y ∷ [] else []) xs ≡ map f (cond b (x ∷ filter is xs) (filter is xs))
    by true ih = ap (λ l. f x ∷ l) ih
    by false ih = ih

-- the fields that are no ids
abbrev no_ids_in : Rules → List Placed → List Placed
no_ids_in rules xs = filter (λ field. not (is_id_field rules field)) xs

pub no_ids : (rules : Rules) (xs : List Placed) → flat_map (tested wrongs.NoId rules) xs ≡ alone_at BAD_ID (filter (λ field. not (is_id_field rules field)) xs)
no_ids rules [] = refl
no_ids rules (x ∷ xs) = by (is_id_field rules x) (no_ids rules xs)
  where
    by : (b : Bool) → flat_map (tested wrongs.NoId rules) xs ≡ alone_at BAD_ID (no_ids_in rules xs)
        → (if b then [] else fault_alone BAD_ID x.0 ∷ []) ++ flat_map (tested wrongs.NoId rules) xs ≡ alone_at BAD_ID (cond (not b) (x ∷ no_ids_in rules xs) (no_ids_in rules xs))
    by true ih = ih
    by false ih = ap (λ l. fault_alone BAD_ID x.0 ∷ l) ih

-- the ids that are missing
pub missing : (rules : Rules) (code : ℕ) (ids : Bor (List Bytes)) (xs : List Placed) → flat_map (tested (wrongs.Missing code ids) rules) xs ≡ missing_among rules code ids.now xs
missing rules code ids xs = by_test (λ (field : Placed). is_id_field rules field && not (has_id ids.now field.1)) (fault_of code) xs

-- the ids that are found among the first of a table
pub found : (rules : Rules) (code : ℕ) (ids : Bor (List Bytes)) (seen : ℕ) (xs : List Placed) → flat_map (tested (wrongs.Found code ids seen) rules) xs ≡ found_among rules code (take seen ids.now) xs
found rules code ids seen xs = by_test (λ (field : Placed). is_id_field rules field && has_id (take seen ids.now) field.1) (fault_of code) xs

-- found among other ids with the same members
pub found_alike : (rules : Rules) (code : ℕ) (some others : List Bytes) → ((id : Bytes) → has_id some id ≡ has_id others id) → (xs : List Placed) → found_among rules code some xs ≡ found_among rules code others xs
found_alike rules code some others alike xs =
    ap (map (fault_of code)) (filter_agree (λ (field : Placed). is_id_field rules field && has_id some field.1) (λ (field : Placed). is_id_field rules field && has_id others field.1) (λ x. ap (λ (b : Bool). is_id_field rules x && b) (alike x.1)) xs)

-- missing among other ids with the same members
pub missing_alike : (rules : Rules) (code : ℕ) (some others : List Bytes) → ((id : Bytes) → has_id some id ≡ has_id others id) → (xs : List Placed) → missing_among rules code some xs ≡ missing_among rules code others xs
missing_alike rules code some others alike xs =
    ap (map (fault_of code)) (filter_agree (λ (field : Placed). is_id_field rules field && not (has_id some field.1)) (λ (field : Placed). is_id_field rules field && not (has_id others field.1)) (λ x. ap (λ (b : Bool). is_id_field rules x && not b) (alike x.1)) xs)

-- one field that is an id and found
pub found_one : (rules : Rules) (code : ℕ) (ids : List Bytes) (x : Placed) → found_among rules code ids (x ∷ []) ≡ (if is_id_field rules x && has_id ids x.1 then fault_of code x ∷ [] else [])
found_one rules code ids x = by (is_id_field rules x && has_id ids x.1)
  where
    by : (b : Bool) → map (fault_of code) (cond b (x ∷ []) []) ≡ (if b then fault_of code x ∷ [] else [])
    by true = refl
    by false = refl

-- the fields of a pair that are no ids
pub bad_pair : (rules : Rules) (pair : PlacedPair) → alone_at BAD_ID (bad_of_pair rules pair)
    ≡ (if is_place_field rules pair.0 pair.1 then [] else fault_alone BAD_ID pair.0.0 ∷ []) ++ (if is_place_field rules pair.1 pair.0 then [] else fault_alone BAD_ID pair.1.0 ∷ [])
bad_pair rules pair = by (is_place_field rules pair.0 pair.1) (is_place_field rules pair.1 pair.0)
  where
    by : (b c : Bool) → alone_at BAD_ID (cond (not b) (pair.0 ∷ []) [] ++ cond (not c) (pair.1 ∷ []) [])
        ≡ (if b then [] else fault_alone BAD_ID pair.0.0 ∷ []) ++ (if c then [] else fault_alone BAD_ID pair.1.0 ∷ [])
    by true true = refl
    by true false = refl
    by false true = refl
    by false false = refl

-- the faults of a record by itself, from the first on
pub own_in_turn : (rules : Rules) (p : Parts) → own_faults rules p
    ≡ p.faults
    ++ (flat_map (tested wrongs.NoId rules) p.names
    ++ (flat_map (tested wrongs.NoId rules) p.list ++ (alone_at BAD_ID (flat_map (bad_of_pair rules) p.pairs) ++ quota_faults rules p)))
own_in_turn rules p = rw (no_ids rules p.names, no_ids rules p.list) (simp (map-append, append_assoc) refl)

or-false : (b : Bool) → b ≡ (b || false)
or-false true = refl
or-false false = refl

-- entries so far with the same ids as a table
abbrev pub Alike : Rules → List Bytes → List Bytes → Type 0
Alike rules table before = (id : Bytes) → is_id rules.limits.id_bytes id ≡ true → has_id table id ≡ has_id before id

-- no id is a field that isn't one
other_id : (rules : Rules) (x id : Bytes) → is_id rules.limits.id_bytes x ≡ false → is_id rules.limits.id_bytes id ≡ true → bytes_eq id x ≡ false
other_id rules x id none is = false_from_ne_true _ (λ same. let e : id ≡ x = same_id id x same in cc (ap (is_id rules.limits.id_bytes) e))

-- with one field more
pub alike_more : (rules : Rules) (table before : List Bytes) (x : Placed) → Alike rules table before → Alike rules (entries_with rules table x) (before ++ x.1 ∷ [])
alike_more rules table before x alike other is = by (is_id_field rules x) refl
  where
    by : (b : Bool) → is_id_field rules x ≡ b → has_id (if b && not (has_id table x.1) then table ++ x.1 ∷ [] else table) other ≡ has_id (before ++ x.1 ∷ []) other
    by true e =
        ap (λ xs. has_id xs other) (added_is (has_id table x.1) table (table ++ x.1 ∷ [])) ∙ has_id-added table (x.1 ∷ []) other
        ∙ ap (λ b. b || has_id (x.1 ∷ []) other) (alike other is) ∙ sym (list_any-append (bytes_eq other) before (x.1 ∷ []))
      where
        added_is : (b : Bool) (xs ys : List Bytes) → (if not b then ys else xs) ≡ (if b then xs else ys)
        added_is true xs ys = refl
        added_is false xs ys = refl
    by false e =
        alike other is ∙ or-false (has_id before other) ∙ ap (λ b. has_id before other || (b || false)) (sym (other_id rules x.1 other e is))
        ∙ sym (list_any-append (bytes_eq other) before (x.1 ∷ []))

pub alike_by : (rules : Rules) (table new before : List Bytes) (x : Placed) → new ≡ entries_with rules table x → Alike rules table before → Alike rules new (before ++ x.1 ∷ [])
alike_by rules table new before x e alike other is = ap (λ xs. has_id xs other) e ∙ alike_more rules table before x alike other is

-- pairs so far with the same members as a table
abbrev pub fields_of : PlacedPair → Bytes × Bytes
fields_of pair = (pair.0.1, pair.1.1)

abbrev pub has_pair : List (Bytes × Bytes) → IdPair → Bool
has_pair before p = list_any (λ other. is_same_pair p (pair_of other)) before

abbrev pub PairsAlike : List IdPair → List (Bytes × Bytes) → Type 0
PairsAlike table before = (p : IdPair) → list_any (is_same_pair p) table ≡ has_pair before p

pub pairs_alike_more : (table new : List IdPair) (before : List (Bytes × Bytes)) (fields : Bytes × Bytes) → PairsAlike table before
    → new ≡ (if list_any (is_same_pair (pair_of fields)) table then table else table ++ pair_of fields ∷ [])
    → (other : IdPair) → list_any (is_same_pair other) new ≡ has_pair (before ++ fields ∷ []) other
pairs_alike_more table new before fields alike is other =
    ap (list_any (is_same_pair other)) is ∙ by (list_any (is_same_pair (pair_of fields)) table) refl
    ∙ ap (λ b. b || (is_same_pair other (pair_of fields) || false)) (alike other)
    ∙ sym (list_any-append (λ (q : Bytes × Bytes). is_same_pair other (pair_of q)) before (fields ∷ []))
  where
    one : (b : Bool) → is_same_pair other (pair_of fields) ≡ b → list_any (is_same_pair (pair_of fields)) table ≡ true
        → list_any (is_same_pair other) table ≡ (list_any (is_same_pair other) table || (b || false))
    one true e h = let k : list_any (is_same_pair other) table ≡ true = ap (λ p. list_any (is_same_pair p) table) ((same_pairs other (pair_of fields)).0 e) ∙ h in rw k refl
    one false e h = or-false (list_any (is_same_pair other) table)

    by : (b : Bool) → list_any (is_same_pair (pair_of fields)) table ≡ b
        → list_any (is_same_pair other) (if b then table else table ++ pair_of fields ∷ []) ≡ (list_any (is_same_pair other) table || (is_same_pair other (pair_of fields) || false))
    by true h = one (is_same_pair other (pair_of fields)) refl h
    by false h = list_any-append (is_same_pair other) table (pair_of fields ∷ [])

-- the fault of a limit, as a sink gets it
abbrev pub over : Bool → Bytes → List FieldFault
over is_passed id = if is_passed then record { code = TOO_MANY; field = 0; id = id } ∷ [] else []

pub limit_told : (said is : Bool) (shown id : Bytes) (told : List FieldFault) → told ≡ over said shown → said ≡ is → shown ≡ id → told ≡ over is id
limit_told said is shown id told t s i = t ∙ ap₂ over s i

-- the limits that are passed, from the first on
pub limits_in_turn : (a b c d : List FieldFault) → a ++ b ++ c ++ d ≡ a ++ (b ++ (c ++ d))
limits_in_turn a b c d = simp append_assoc refl

-- members beside other ids with the same members
pub members_alike : (rules : Rules) (some others : List Bytes) → ((id : Bytes) → has_id some id ≡ has_id others id) → (xs : List Placed) → members_before rules some xs ≡ members_before rules others xs
members_alike rules some others alike [] = refl
members_alike rules some others alike (x ∷ xs) =
    ap₂ (λ (a b : List FieldFault). a ++ b) (found_alike rules DUPLICATE_ID some others alike (x ∷ [])) (members_alike rules (some ++ x.1 ∷ []) (others ++ x.1 ∷ []) more xs)
  where
    more : (id : Bytes) → has_id (some ++ x.1 ∷ []) id ≡ has_id (others ++ x.1 ∷ []) id
    more id = list_any-append (bytes_eq id) some (x.1 ∷ []) ∙ ap (λ b. b || has_id (x.1 ∷ []) id) (alike id) ∙ sym (list_any-append (bytes_eq id) others (x.1 ∷ []))

-- the two members of a couple
pub two_fields : (xs : List Placed) (x y : Placed) → Some x ≡ head xs → Some y ≡ head (drop 1 xs) → length xs ≤ 2 → xs ≡ x ∷ y ∷ []
two_fields [] x y h k few = cc
two_fields (a ∷ []) x y h k few = cc
two_fields (a ∷ b ∷ []) x y h k few = ap₂ (λ (c d : Placed). c ∷ d ∷ []) (of _ _ (sym h)) (of _ _ (sym k))
  where
    of : (c d : Placed) → Some c ≡ Some d → c ≡ d
    of c d e = cc
two_fields (a ∷ b ∷ c ∷ xs) x y h k few = absurd (omega (arith, few))

pub members_two : (rules : Rules) (ids : List Bytes) (xs : List Placed) (x y : Placed) (one two : List FieldFault) → xs ≡ x ∷ y ∷ [] → one ≡ found_among rules DUPLICATE_ID ids (take 1 xs) → two ≡ found_among rules DUPLICATE_ID (ids ++ x.1 ∷ []) (y ∷ [])
    → members_before rules ids xs ≡ one ++ two
members_two rules ids xs x y one two e o t =
    ap (members_before rules ids) e ∙ ap₂ (λ (a b : List FieldFault). a ++ b) (sym (o ∙ ap (λ l. found_among rules DUPLICATE_ID ids (take 1 l)) e)) (append-nil (found_among rules DUPLICATE_ID (ids ++ x.1 ∷ []) (y ∷ [])) ∙ sym t)

-- the members after the first one, and all of them from the first on
abbrev pub members_next : Rules → List Bytes → List Placed → List FieldFault
members_next rules ids [] = []
members_next rules ids (x ∷ xs) = members_before rules (ids ++ x.1 ∷ []) xs

pub members_in_turn : (rules : Rules) (ids : List Bytes) (xs one : List Placed) → one ≡ take 1 xs → members_before rules ids xs ≡ found_among rules DUPLICATE_ID ids one ++ members_next rules ids xs
members_in_turn rules ids xs one e = by xs ∙ ap (λ l. found_among rules DUPLICATE_ID ids l ++ members_next rules ids xs) (sym e)
  where
    by : (xs : List Placed) → members_before rules ids xs ≡ found_among rules DUPLICATE_ID ids (take 1 xs) ++ members_next rules ids xs
    by [] = refl
    by (x ∷ xs) = refl

-- the own id that is registered before, by the form of a record
module _ (rules : Rules) (before : List Parts) (p : Parts) where
  pub own_program : (ids : List Bytes) → p.form ≡ Registers OfProgram → ((id : Bytes) → has_id ids id ≡ has_id (all_own_ids rules OfProgram before) id) → found_among rules DUPLICATE_ID ids p.names ≡ own_again rules before p
  own_program ids form alike = found_alike rules DUPLICATE_ID ids (all_own_ids rules OfProgram before) alike p.names ∙ rw form refl

  pub own_applicant : (ids : List Bytes) → p.form ≡ Registers OfApplicant → ((id : Bytes) → has_id ids id ≡ has_id (all_applicants rules before) id) → found_among rules DUPLICATE_ID ids p.names ≡ own_again rules before p
  own_applicant ids form alike = found_alike rules DUPLICATE_ID ids (all_applicants rules before) alike p.names ∙ rw form refl

  pub own_couple : (ids : List Bytes) → p.form ≡ Registers OfCouple → ((id : Bytes) → has_id ids id ≡ has_id (all_own_ids rules OfCouple before) id) → found_among rules DUPLICATE_ID ids (take 1 p.names) ≡ own_again rules before p
  own_couple ids form alike = found_alike rules DUPLICATE_ID ids (all_own_ids rules OfCouple before) alike (take 1 p.names) ∙ rw form refl

  -- what is registered before: the own id, and a couple's members
  registered_in_two : registered_faults rules before p ≡ own_again rules before p ++ members_before rules (all_applicants rules before) (members_of p)
  registered_in_two = by p.form refl
    where
      couple : (names : List Placed) → registered_faults rules before (record p { form = Registers OfCouple; names = names })
          ≡ found_among rules DUPLICATE_ID (all_own_ids rules OfCouple before) (take 1 names) ++ members_before rules (all_applicants rules before) (drop 1 names)
      couple [] = refl
      couple (x ∷ xs) = refl

      by : (form : Form) → p.form ≡ form → registered_faults rules before p ≡ own_again rules before p ++ members_before rules (all_applicants rules before) (members_of p)
      by (Registers OfProgram) e = rw e (sym (append-nil (found_among rules DUPLICATE_ID (all_own_ids rules OfProgram before) p.names)))
      by (Registers OfApplicant) e = rw e (sym (append-nil (found_among rules DUPLICATE_ID (all_applicants rules before) p.names)))
      by (Registers OfCouple) e = rw e (couple p.names)
      by (Withdraws kind) e = rw e refl
      by Unknown e = rw e refl

-- the members of a couple, as a sink gets them, and their number
pub members_told : (known : List Bytes) (rules : Rules) (before : List Parts) (p : Parts) (fields : List Placed) → fields ≡ members_of p → ((id : Bytes) → has_id known id ≡ has_id (all_applicants rules before) id)
    → members_before rules known fields ≡ members_before rules (all_applicants rules before) (members_of p)
members_told known rules before p fields is alike = ap (members_before rules known) is ∙ members_alike rules known (all_applicants rules before) alike (members_of p)

pub members_few : (p : Parts) (fields : List Placed) → fields ≡ members_of p → length p.names ≤ 3 → length fields ≤ 2
members_few p fields is few = omega (arith, ap length is, by p.form refl)
  where
    fewer : (names : List Placed) → length names ≤ 3 → length (drop 1 names) ≤ 2
    fewer [] h = omega arith
    fewer (x ∷ xs) h = omega (arith, h)

    by : (form : Form) → p.form ≡ form → length (members_of p) ≤ 2
    by (Registers OfProgram) e = rw e (omega arith)
    by (Registers OfApplicant) e = rw e (omega arith)
    by (Registers OfCouple) e = rw e (fewer p.names few)
    by (Withdraws kind) e = rw e (omega arith)
    by Unknown e = rw e (omega arith)

-- the faults of a record in turn, from each step on
module _ (rules : Rules) (all before : List Parts) (p : Parts) where
  abbrev pub from_limits : List FieldFault
  from_limits = limit_faults rules before p ++ unknown_faults rules all p

  abbrev pub from_withdrawn : List FieldFault
  from_withdrawn = withdrawn_again rules before p ++ from_limits

  abbrev pub from_repeats : List FieldFault
  from_repeats = repeats_in_list rules p ++ from_withdrawn

  abbrev pub from_members : List FieldFault
  from_members = members_before rules (all_applicants rules before) (members_of p) ++ from_repeats

  abbrev pub from_own : List FieldFault
  from_own = own_again rules before p ++ from_members

  pub record_in_turn : record_faults rules all before p ≡ own_faults rules p ++ from_own
  record_in_turn =
      ap (λ r. (own_faults rules p ++ r ++ repeat_faults rules before p ++ limit_faults rules before p) ++ unknown_faults rules all p) (registered_in_two rules before p)
      ∙ regroup (own_faults rules p) (own_again rules before p) (members_before rules (all_applicants rules before) (members_of p)) (repeats_in_list rules p) (withdrawn_again rules before p) (limit_faults rules before p) (unknown_faults rules all p)
    where
      regroup : (a b c d e f g : List FieldFault) → (a ++ (b ++ c) ++ (d ++ e) ++ f) ++ g ≡ a ++ (b ++ (c ++ (d ++ (e ++ (f ++ g)))))
      regroup a b c d e f g = simp append_assoc refl

-- what is withdrawn again
pub withdrawn_is : (rules : Rules) (before : List Parts) (p : Parts) (kind : Kind) (ids : List Bytes) → p.form ≡ Withdraws kind → ((id : Bytes) → has_id ids id ≡ has_id (all_withdrawn rules kind before) id)
    → found_among rules DUPLICATE_ENTRY ids p.names ≡ withdrawn_again rules before p
withdrawn_is rules before p kind ids form alike = found_alike rules DUPLICATE_ENTRY ids (all_withdrawn rules kind before) alike p.names ∙ rw form refl

-- what no record registers, by the form of a record
module _ (rules : Rules) (all : List Parts) (p : Parts) where
  pub unknown_applicants : (ids : List Bytes) → p.form ≡ Registers OfProgram → ((id : Bytes) → has_id ids id ≡ has_id (all_applicants rules all) id) → missing_among rules UNKNOWN_APPLICANT ids p.list ≡ unknown_faults rules all p
  unknown_applicants ids form alike = missing_alike rules UNKNOWN_APPLICANT ids (all_applicants rules all) alike p.list ∙ rw form refl

  pub unknown_programs : (ids : List Bytes) → p.form ≡ Registers OfApplicant → ((id : Bytes) → has_id ids id ≡ has_id (all_own_ids rules OfProgram all) id) → missing_among rules UNKNOWN_PROGRAM ids p.list ≡ unknown_faults rules all p
  unknown_programs ids form alike = missing_alike rules UNKNOWN_PROGRAM ids (all_own_ids rules OfProgram all) alike p.list ∙ rw form refl

  pub unknown_in_pairs : (ids : List Bytes) → p.form ≡ Registers OfCouple → ((id : Bytes) → has_id ids id ≡ has_id (all_own_ids rules OfProgram all) id) → missing_among rules UNKNOWN_PROGRAM ids (flat_map both_of p.pairs) ≡ unknown_faults rules all p
  unknown_in_pairs ids form alike = missing_alike rules UNKNOWN_PROGRAM ids (all_own_ids rules OfProgram all) alike (flat_map both_of p.pairs) ∙ rw form refl

  pub unregistered : (kind : Kind) (ids : List Bytes) → p.form ≡ Withdraws kind → ((id : Bytes) → has_id ids id ≡ has_id (all_own_ids rules kind all) id) → missing_among rules NOT_REGISTERED ids p.names ≡ unknown_faults rules all p
  unregistered kind ids form alike = missing_alike rules NOT_REGISTERED ids (all_own_ids rules kind all) alike p.names ∙ rw form refl
