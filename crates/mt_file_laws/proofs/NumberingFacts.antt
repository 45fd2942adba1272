-- The market of records that have no fault, by numbers.
use Rattle.std.proofs.Common.{◌≡◌, ℕ, zero, suc, ◌<◌, ◌≤◌, Bool, true, false, not, ◌&&◌, ◌||◌, List, [], ◌∷◌, map, length, get_or, Option, Some, None, refl, arith, cond, nat_lt, nat_le}
use Rattle.std.specs.Prelude.{filter, bytes_eq, ◌==◌, is_some}
use Rattle.std.specs.List.{list_all, list_any}
use Rattle.std.proofs.lemmas.Bool.{and_parts, and_from, false_from_ne_true, or_right, or_parts, or_left}
use Rattle.std.proofs.lemmas.Bool.Decides.{nat_tests}
use Rattle.std.proofs.lemmas.List.Sums.{sum_by-cons}
use Rattle.mt_terms.specs.declared.limits.TheConstants.{LIMITS_2}
use Rattle.mt_terms.specs.Registration.Ids.{Bytes, is_id, number_of, all_differ}
use Rattle.mt_terms.specs.Registration.Records.{Record, ProgramRecord, ApplicantRecord, CoupleRecord, WithdrawRecord, OfProgram, OfCouple, IdPair}
use Rattle.mt_terms.specs.Registration.Rows.{ids_of, applicant_ids, entries_of, entry_count}
use Rattle.mt_terms.specs.Registration.Passes.{are_too_many, is_same_pair}
use Rattle.mt_terms.specs.Registration.Numbering.{is_none_or_in, names_only, pair_by_number, pairs_by_number}
use Rattle.mt_terms.specs.Registration.Accepted.{is_none_or_below, is_pair_below, are_same_places}
use Rattle.std.specs.Option.{option_eq, option_map}
use Rattle.mt_record_laws.proofs.IdFacts.{Within, within_nil, within_cons, within_more}
use Rattle.mt_terms.proofs.IdFacts.{number_below, same_number, is_same}

abbrev pub names_one : IdPair → Bool
names_one p = is_some p.0 || is_some p.1

-- whether a record is without a fault by itself
abbrev pub is_good : Record → Bool
is_good (ProgramRecord id quota list) = is_id 64 id && nat_le quota 9999 && all_differ bytes_eq list
is_good (ApplicantRecord id list) = is_id 64 id && all_differ bytes_eq list
is_good (CoupleRecord id a b pairs) = list_all (is_id 64) (id ∷ a ∷ b ∷ []) && list_all names_one pairs && all_differ is_same_pair pairs
is_good (WithdrawRecord kind id) = true

-- records that the first pass takes
pub record AreSound (records : List Record) : Type 0 where
  pub programs_differ : all_differ bytes_eq (ids_of OfProgram records) ≡ true
  pub couples_differ : all_differ bytes_eq (ids_of OfCouple records) ≡ true
  pub applicants_differ : all_differ bytes_eq (applicant_ids records) ≡ true
  pub all_good : list_all is_good records ≡ true
  pub few : are_too_many LIMITS_2 records ≡ false

pub not_above : (limit n : ℕ) → nat_lt limit n ≡ false → n ≤ limit
not_above limit n h = grind (arith, nat_tests)

below_too : (limit n m : ℕ) → nat_lt limit n ≡ false → m ≤ n → nat_lt limit m ≡ false
below_too limit n m h k = grind (arith, nat_tests)

-- records of which some are left out
module _ (stays : Record → Bool) where
  programs_within : (rs : List Record) → Within (ids_of OfProgram (filter stays rs)) (ids_of OfProgram rs)
  programs_within [] = within_nil
  programs_within (r ∷ rs) = by r (stays r) (programs_within rs)
    where
      by : (r : Record) (b : Bool) → Within (ids_of OfProgram (filter stays rs)) (ids_of OfProgram rs) → Within (ids_of OfProgram (cond b (r ∷ filter stays rs) (filter stays rs))) (ids_of OfProgram (r ∷ rs))
      by (ProgramRecord id quota list) true w = within_cons id _ _ w
      by (ProgramRecord id quota list) false w = within_more id _ _ w
      by (ApplicantRecord id list) true w = w
      by (ApplicantRecord id list) false w = w
      by (CoupleRecord id a b pairs) true w = w
      by (CoupleRecord id a b pairs) false w = w
      by (WithdrawRecord kind id) true w = w
      by (WithdrawRecord kind id) false w = w

  couples_within : (rs : List Record) → Within (ids_of OfCouple (filter stays rs)) (ids_of OfCouple rs)
  couples_within [] = within_nil
  couples_within (r ∷ rs) = by r (stays r) (couples_within rs)
    where
      by : (r : Record) (b : Bool) → Within (ids_of OfCouple (filter stays rs)) (ids_of OfCouple rs) → Within (ids_of OfCouple (cond b (r ∷ filter stays rs) (filter stays rs))) (ids_of OfCouple (r ∷ rs))
      by (ProgramRecord id quota list) true w = w
      by (ProgramRecord id quota list) false w = w
      by (ApplicantRecord id list) true w = w
      by (ApplicantRecord id list) false w = w
      by (CoupleRecord id a b pairs) true w = within_cons id _ _ w
      by (CoupleRecord id a b pairs) false w = within_more id _ _ w
      by (WithdrawRecord kind id) true w = w
      by (WithdrawRecord kind id) false w = w

  applicants_within : (rs : List Record) → Within (applicant_ids (filter stays rs)) (applicant_ids rs)
  applicants_within [] = within_nil
  applicants_within (r ∷ rs) = by r (stays r) (applicants_within rs)
    where
      by : (r : Record) (b : Bool) → Within (applicant_ids (filter stays rs)) (applicant_ids rs) → Within (applicant_ids (cond b (r ∷ filter stays rs) (filter stays rs))) (applicant_ids (r ∷ rs))
      by (ProgramRecord id quota list) true w = w
      by (ProgramRecord id quota list) false w = w
      by (ApplicantRecord id list) true w = within_cons id _ _ w
      by (ApplicantRecord id list) false w = within_more id _ _ w
      by (CoupleRecord id a b pairs) true w = within_cons a _ _ (within_cons b _ _ w)
      by (CoupleRecord id a b pairs) false w = within_more a _ _ (within_more b _ _ w)
      by (WithdrawRecord kind id) true w = w
      by (WithdrawRecord kind id) false w = w

  good_within : (rs : List Record) → list_all is_good rs ≡ true → list_all is_good (filter stays rs) ≡ true
  good_within [] h = refl
  good_within (r ∷ rs) h = let p : (is_good r ≡ true) × (list_all is_good rs ≡ true) = and_parts (is_good r) _ h in by (stays r) p.0 (good_within rs p.1)
    where
      by : (b : Bool) → is_good r ≡ true → list_all is_good (filter stays rs) ≡ true → list_all is_good (cond b (r ∷ filter stays rs) (filter stays rs)) ≡ true
      by true g ih = rw (g, ih) refl
      by false g ih = ih

  entries_within : (rs : List Record) → entry_count (filter stays rs) ≤ entry_count rs
  entries_within [] = omega arith
  entries_within (r ∷ rs) = by (stays r) (entries_within rs)
    where
      by : (b : Bool) → entry_count (filter stays rs) ≤ entry_count rs → entry_count (cond b (r ∷ filter stays rs) (filter stays rs)) ≤ entry_count (r ∷ rs)
      by true ih = omega (arith, sum_by-cons entries_of r rs, sum_by-cons entries_of r (filter stays rs))
      by false ih = omega (arith, sum_by-cons entries_of r rs)

  few_within : (a b c d a' b' c' d' : ℕ) → a' ≤ a → b' ≤ b → c' ≤ c → d' ≤ d
      → (nat_lt 100_000 a || nat_lt 20_000 b || nat_lt 10_000 c || nat_lt 8_000_000 d) ≡ false
      → (nat_lt 100_000 a' || nat_lt 20_000 b' || nat_lt 10_000 c' || nat_lt 8_000_000 d') ≡ false
  few_within a b c d a' b' c' d' h i j k f =
      let p : (nat_lt 100_000 a || nat_lt 20_000 b || nat_lt 10_000 c ≡ false) × (nat_lt 8_000_000 d ≡ false) = or_parts _ _ f in
      let q : (nat_lt 100_000 a || nat_lt 20_000 b ≡ false) × (nat_lt 10_000 c ≡ false) = or_parts _ _ p.0 in
      let r : (nat_lt 100_000 a ≡ false) × (nat_lt 20_000 b ≡ false) = or_parts _ _ q.0 in
      rw (below_too _ a a' r.0 h, below_too _ b b' r.1 i, below_too _ c c' q.1 j, below_too _ d d' p.1 k) refl

  pub sound_within : (rs : List Record) → AreSound rs → AreSound (filter stays rs)
  sound_within rs s = record {
    programs_differ = (programs_within rs).differ s.programs_differ;
    couples_differ = (couples_within rs).differ s.couples_differ;
    applicants_differ = (applicants_within rs).differ s.applicants_differ;
    all_good = good_within rs s.all_good;
    few = few_within _ _ _ _ _ _ _ _ (applicants_within rs).short (programs_within rs).short (couples_within rs).short (entries_within rs) s.few;
  }

-- what passes at each element and at the default, passes at each place
pub at_each : {X : Type 0} (test : X → Bool) (d : X) → test d ≡ true → (xs : List X) → list_all test xs ≡ true → (i : ℕ) → test (get_or xs i d) ≡ true
at_each test d h [] k i = h
at_each test d h (x ∷ xs) k zero = (and_parts (test x) _ k).0
at_each test d h (x ∷ xs) k (suc i) = at_each test d h xs (and_parts (test x) _ k).1 i

-- pairs by number
place_below : (ids : List Bytes) (o : Option Bytes) → is_none_or_in ids o ≡ true → is_none_or_below (length ids) (option_map (number_of ids) o) ≡ true
place_below ids None h = refl
place_below ids (Some x) h = let l : number_of ids x < length ids = number_below ids x h in grind (arith, nat_tests)

same_some : (ids : List Bytes) (o : Option Bytes) → is_some (option_map (number_of ids) o) ≡ is_some o
same_some ids None = refl
same_some ids (Some x) = refl

pub pairs_below : (ids : List Bytes) (ps : List IdPair) → list_all names_one ps ≡ true → list_all (is_pair_below (length ids)) (pairs_by_number ids ps) ≡ true
pairs_below ids [] h = refl
pairs_below ids (p ∷ ps) h = let q : (names_one p ≡ true) × (list_all names_one ps ≡ true) = and_parts (names_one p) _ h in by (names_only ids p) refl q.0 (pairs_below ids ps q.1)
  where
    by : (b : Bool) → names_only ids p ≡ b → names_one p ≡ true → list_all (is_pair_below (length ids)) (pairs_by_number ids ps) ≡ true → list_all (is_pair_below (length ids)) (map (pair_by_number ids) (cond b (p ∷ filter (names_only ids) ps) (filter (names_only ids) ps))) ≡ true
    by true e o ih = let k : (is_none_or_in ids p.0 ≡ true) × (is_none_or_in ids p.1 ≡ true) = and_parts (is_none_or_in ids p.0) _ e in and_from _ _ (rw (same_some ids p.0, same_some ids p.1, o, place_below ids p.0 k.0, place_below ids p.1 k.1) refl) ih
    by false e o ih = ih

same_place : (ids : List Bytes) (o u : Option Bytes) → is_none_or_in ids o ≡ true → is_none_or_in ids u ≡ true → option_eq ◌==◌ (option_map (number_of ids) o) (option_map (number_of ids) u) ≡ true → option_eq bytes_eq o u ≡ true
same_place ids None None h k e = refl
same_place ids None (Some y) h k e = cc
same_place ids (Some x) None h k e = cc
same_place ids (Some x) (Some y) h k e = let s : number_of ids x ≡ number_of ids y = grind (arith, nat_tests) in is_same x y (same_number ids x y h k s)

pair_listed : (ids : List Bytes) (p : IdPair) → names_only ids p ≡ true → (ps : List IdPair) → list_any (are_same_places (pair_by_number ids p)) (pairs_by_number ids ps) ≡ true → list_any (is_same_pair p) ps ≡ true
pair_listed ids p h [] k = cc
pair_listed ids p h (q ∷ ps) k = by (names_only ids q) refl (pair_listed ids p h ps) k
  where
    same : names_only ids q ≡ true → are_same_places (pair_by_number ids p) (pair_by_number ids q) ≡ true → is_same_pair p q ≡ true
    same n e =
        let a : (is_none_or_in ids p.0 ≡ true) × (is_none_or_in ids p.1 ≡ true) = and_parts (is_none_or_in ids p.0) _ h in
        let b : (is_none_or_in ids q.0 ≡ true) × (is_none_or_in ids q.1 ≡ true) = and_parts (is_none_or_in ids q.0) _ n in
        let c : (option_eq ◌==◌ (option_map (number_of ids) p.0) (option_map (number_of ids) q.0) ≡ true) × (option_eq ◌==◌ (option_map (number_of ids) p.1) (option_map (number_of ids) q.1) ≡ true) = and_parts _ _ e in
        and_from _ _ (same_place ids p.0 q.0 a.0 b.0 c.0) (same_place ids p.1 q.1 a.1 b.1 c.1)

    here : (c : Bool) → (c ≡ true → is_same_pair p q ≡ true) → (list_any (are_same_places (pair_by_number ids p)) (pairs_by_number ids ps) ≡ true → list_any (is_same_pair p) ps ≡ true) → (c || list_any (are_same_places (pair_by_number ids p)) (pairs_by_number ids ps)) ≡ true → list_any (is_same_pair p) (q ∷ ps) ≡ true
    here true s ih k = or_left _ _ (s refl)
    here false s ih k = or_right _ _ (ih k)

    by : (b : Bool) → names_only ids q ≡ b → (list_any (are_same_places (pair_by_number ids p)) (pairs_by_number ids ps) ≡ true → list_any (is_same_pair p) ps ≡ true) → list_any (are_same_places (pair_by_number ids p)) (map (pair_by_number ids) (cond b (q ∷ filter (names_only ids) ps) (filter (names_only ids) ps))) ≡ true → list_any (is_same_pair p) (q ∷ ps) ≡ true
    by true n ih k = here (are_same_places (pair_by_number ids p) (pair_by_number ids q)) (same n) ih k
    by false n ih k = or_right _ _ (ih k)

pub pairs_differ : (ids : List Bytes) (ps : List IdPair) → all_differ is_same_pair ps ≡ true → all_differ are_same_places (pairs_by_number ids ps) ≡ true
pairs_differ ids [] h = refl
pairs_differ ids (p ∷ ps) h = let q : (not (list_any (is_same_pair p) ps) ≡ true) × (all_differ is_same_pair ps ≡ true) = and_parts (not (list_any (is_same_pair p) ps)) _ h in by (names_only ids p) refl q.0 (pairs_differ ids ps q.1)
  where
    by : (b : Bool) → names_only ids p ≡ b → not (list_any (is_same_pair p) ps) ≡ true → all_differ are_same_places (pairs_by_number ids ps) ≡ true → all_differ are_same_places (map (pair_by_number ids) (cond b (p ∷ filter (names_only ids) ps) (filter (names_only ids) ps))) ≡ true
    by true n h ih = let f : list_any (are_same_places (pair_by_number ids p)) (pairs_by_number ids ps) ≡ false = false_from_ne_true _ (λ k. contrary _ h (pair_listed ids p n ps k)) in rw (f, ih) refl
      where
        contrary : (b : Bool) → not b ≡ true → b ≡ true → ⊥
        contrary true h k = cc
        contrary false h k = cc
    by false n h ih = ih

pub pairs_short : (ids : List Bytes) (ps : List IdPair) → length (pairs_by_number ids ps) ≤ length ps
pairs_short ids [] = omega arith
pairs_short ids (p ∷ ps) = by (names_only ids p) (pairs_short ids ps)
  where
    by : (b : Bool) → length (pairs_by_number ids ps) ≤ length ps → length (map (pair_by_number ids) (cond b (p ∷ filter (names_only ids) ps) (filter (names_only ids) ps))) ≤ suc (length ps)
    by true ih = omega arith
    by false ih = omega arith
