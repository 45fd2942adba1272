-- A search that goes through numbers, or through a list up to where it stops, one after another.
use Rattle.std.proofs.Common.{◌≡◌, ℕ, zero, suc, ◌+◌, ◌<◌, Bool, ◌||◌, List, [], ◌∷◌, map, length, get_or, Option, Some, None, is_some, IsTrue, IsFalse, refl, ap, sym, subst, ◌∙◌, ◌-◌, inl, inr, arith}
use Rattle.std.specs.Borrow.{Bor}
use Rattle.std.specs.List.{AllZip, find, list_any, position, position_or_len, range_with_len, slice_get}
use Rattle.std.specs.Option.{option_map}
use Rattle.std.proofs.lemmas.Bool.{cases_Bool, cases_lt, lt-ltb, le-ltb}
use Rattle.rayon.proofs.ToStd.{answers-by_ref, filter_by_mask-find, nat_range-All}
use Rattle.rayon.specs.Lists.{filter_by_mask}
use Rattle.rayon.specs.Numbers.{nat_range}
use Rattle.mt_terms.specs.Lists.{Set, below, until}
use Rattle.mt_stability_laws.proofs.ListLemmas.{none_below, nothing_found, until-map}

find_in_range : (test : Set) (low n k : ℕ) → k < n → ((j : ℕ) → j < k → IsFalse (test (low + j))) → IsTrue (test (low + k)) → find test (range_with_len low n) ≡ Some (low + k)
find_in_range test low zero k within before here = absurd (omega arith)
find_in_range test low (suc n) zero within before here = let e : low + 0 ≡ low = omega arith in let at : IsTrue (test low) = rw e at here in rw (at, e) refl
find_in_range test low (suc n) (suc k) within before here =
    let e : low + 0 ≡ low = omega arith in
    let not_low : IsFalse (test low) = rw e at (before 0 (omega arith)) in
    let up : (j : ℕ) → low + 1 + j ≡ low + suc j = λ j. omega arith in
    rw not_low (find_in_range test (low + 1) n k (omega arith) (λ j less. ap test (up j) ∙ before (suc j) (omega arith)) (ap test (up k) ∙ here) ∙ ap Some (up k))

-- the first number below n that passes
pub find_first : (test : Set) (n k : ℕ) → k < n → ((j : ℕ) → j < k → IsFalse (test j)) → IsTrue (test k) → find test (below n) ≡ Some k
find_first test n k within before here =
    let same : (j : ℕ) → 0 + j ≡ j = λ j. omega arith in
    find_in_range test 0 n k within (λ j less. ap test (same j) ∙ before j less) (ap test (same k) ∙ here) ∙ ap Some (same k)

pub find_none : (test : Set) (n : ℕ) → ((j : ℕ) → j < n → IsFalse (test j)) → find test (below n) ≡ None
find_none test n each = nothing_found test (below n) (none_below test n each)

found_in_range : (test : Set) (low n k : ℕ) → find test (range_with_len low n) ≡ Some k → (k < low + n) × IsTrue (test k)
found_in_range test low zero k found = absurd (cc)
found_in_range test low (suc n) k found = elim (cases_Bool (test low)) [
  | inl here ↦
      let is : Some low ≡ Some k = rw here at found in
      let same : low ≡ k = cc in
      (omega arith, ap test (sym same) ∙ here)
  | inr other ↦
      let later = found_in_range test (low + 1) n k (rw other at found) in
      (omega (arith, later.0), later.1)
]

-- what a search among the numbers below n finds is one of them, and passes
pub found_below : (test : Set) (n k : ℕ) → find test (below n) ≡ Some k → (k < n) × IsTrue (test k)
found_below test n k found = let is = found_in_range test 0 n k found in (omega (arith, is.0), is.1)

some_found : {X : Type 0} (x : X) → Some x ≡ None → ⊥
some_found x is = cc

-- Below, threads search among the numbers below n. Each number that they ask at is one of them.
pub asked_below : (P : ℕ → Type 0) (start end n : ℕ) → start ≡ 0 → end ≡ n → ((a : ℕ) → a < n → P a)
    → (k d : ℕ) → k < length (nat_range start end) → (p : Bor ℕ) → p.now ≡ get_or (nat_range start end) k d → P p.now
asked_below P start end n from to each k d within p read =
    subst P (sym read) (nat_range-All P start end (λ i low high. each i (omega arith)) k d within)

-- if none passes one of two tests, none passes the one, and none the other
pub find_neither : {X : Type 0} (one other : X → Bool) (xs : List X) → find (λ x. one x || other x) xs ≡ None → (find one xs ≡ None) × (find other xs ≡ None)
find_neither one other [] none = (refl, refl)
find_neither one other (x ∷ xs) none = elim (cases_Bool (one x)) [
  | inl first ↦ absurd (some_found x (rw first at none))
  | inr not_first ↦ elim (cases_Bool (other x)) [
    | inl second ↦ absurd (some_found x (rw (not_first, second) at none))
    | inr neither ↦ (let rest = find_neither one other xs (rw (not_first, neither) at none) in (rw not_first rest.0, rw neither rest.1))
  ]
]

-- if none passes the other test, the first that passes one of the two passes the one
pub find_without : {X : Type 0} (one other : X → Bool) (xs : List X) → find other xs ≡ None → find (λ x. one x || other x) xs ≡ find one xs
find_without one other [] none = refl
find_without one other (x ∷ xs) none = elim (cases_Bool (other x)) [
  | inl here ↦ absurd (some_found x (rw here at none))
  | inr not_here ↦ elim (cases_Bool (one x)) [
    | inl first ↦ rw first refl
    | inr not_first ↦ rw (not_first, not_here) (find_without one other xs (rw not_here at none))
  ]
]

-- and they find the first that passes
pub found_by_threads : (test : Set) (start end n : ℕ) (xs : List ℕ) (answers : List Bool) (r : Option ℕ) → start ≡ 0 → end ≡ n → xs ≡ nat_range start end
    → AllZip (λ x b. (p : Bor ℕ) × (p.now ≡ x) × (b ≡ test p.now)) xs answers → r ≡ slice_get (filter_by_mask xs answers) 0 → r ≡ find test (below n)
found_by_threads test start end n xs answers r from to are each is =
    let whole : end - start ≡ n = omega arith in
    is ∙ filter_by_mask-find test xs answers (answers-by_ref test xs answers each)
    ∙ ap (find test) (are ∙ ap (λ a. range_with_len a (end - start)) from ∙ ap (range_with_len 0) whole)

-- one element more at the front, that fails
position_later : {Y : Type 0} (test : Y → Bool) (y : Y) (ys : List Y) (o : Option ℕ) → IsFalse (test y) → position test ys ≡ o → position test (y ∷ ys) ≡ option_map suc o
position_later test y ys o fails is = elim (cases_lt (position_or_len test ys) (length ys)) [
  | inl low ↦
      let here : Some (position_or_len test ys) ≡ o = sym (rw (lt-ltb _ _ low) refl) ∙ is in
      rw (fails, lt-ltb (1 + position_or_len test ys) (suc (length ys)) (omega arith)) (ap (λ n. Some n) (let e : 1 + position_or_len test ys ≡ suc (position_or_len test ys) = omega arith in e) ∙ ap (option_map suc) here)
  | inr high ↦
      let here : None ≡ o = sym (rw (le-ltb _ _ high) refl) ∙ is in
      rw (fails, le-ltb (1 + position_or_len test ys) (suc (length ys)) (omega arith)) (ap (option_map suc) here)
]

-- Below, a search goes through a list for what passes, up to where it stops.
-- neither comes so far
abbrev pub NoneYet : {Y : Type 0} → (Y → Bool) → (Y → Bool) → List Y → Y → ℕ → Type 0
NoneYet stop test ys d k = (j : ℕ) → j < k → IsFalse (stop (get_or ys j d)) × IsFalse (test (get_or ys j d))

pub passes_at : {Y : Type 0} (stop test : Y → Bool) (ys : List Y) (d : Y) (k : ℕ) → k < length ys → NoneYet stop test ys d k
    → IsFalse (stop (get_or ys k d)) → IsTrue (test (get_or ys k d)) → position test (until stop ys) ≡ Some k
passes_at stop test [] d k within none goes_on here = absurd (omega arith)
passes_at stop test (y ∷ ys) d zero within none goes_on here = rw (goes_on, here, lt-ltb 0 (suc (length (until stop ys))) (omega arith)) refl
passes_at stop test (y ∷ ys) d (suc k) within none goes_on here =
    let first = none 0 (omega arith) in
    rw first.0 (position_later test y (until stop ys) (Some k) first.1 (passes_at stop test ys d k (omega arith) (λ j less. none (suc j) (omega arith)) goes_on here))

pub stops_at : {Y : Type 0} (stop test : Y → Bool) (ys : List Y) (d : Y) (k : ℕ) → k < length ys → NoneYet stop test ys d k
    → IsTrue (stop (get_or ys k d)) → position test (until stop ys) ≡ None
stops_at stop test [] d k within none here = absurd (omega arith)
stops_at stop test (y ∷ ys) d zero within none here = rw here refl
stops_at stop test (y ∷ ys) d (suc k) within none here =
    let first = none 0 (omega arith) in
    rw first.0 (position_later test y (until stop ys) None first.1 (stops_at stop test ys d k (omega arith) (λ j less. none (suc j) (omega arith)) here))

pub none_passes : {Y : Type 0} (stop test : Y → Bool) (ys : List Y) (d : Y) → NoneYet stop test ys d (length ys) → position test (until stop ys) ≡ None
none_passes stop test [] d none = refl
none_passes stop test (y ∷ ys) d none =
    let first = none 0 (omega arith) in
    rw first.0 (position_later test y (until stop ys) None first.1 (none_passes stop test ys d (λ j less. none (suc j) (omega arith))))

-- the same search through a list of which each element stands for another
pub position-map : {X Y : Type 0} (test : X → Bool) (f : Y → X) (ys : List Y) → position test (map f ys) ≡ position (λ y. test (f y)) ys
position-map test f [] = refl
position-map test f (y ∷ ys) = elim (cases_Bool (test (f y))) [
  | inl here ↦ rw (here, lt-ltb 0 (suc (length (map f ys))) (omega arith), lt-ltb 0 (suc (length ys)) (omega arith)) refl
  | inr other ↦ position_later test (f y) (map f ys) (position test (map f ys)) other refl
      ∙ ap (option_map suc) (position-map test f ys)
      ∙ sym (position_later (λ z. test (f z)) y ys (position (λ z. test (f z)) ys) other refl)
]

pub position_mapped : {X Y : Type 0} (stop test : X → Bool) (f : Y → X) (ys : List Y)
    → position test (until stop (map f ys)) ≡ position (λ y. test (f y)) (until (λ y. stop (f y)) ys)
position_mapped stop test f ys = ap (position test) (until-map stop f ys) ∙ position-map test f (until (λ y. stop (f y)) ys)

-- something passes if a first place does
pub any_has_position : {X : Type 0} (test : X → Bool) (xs : List X) → list_any test xs ≡ is_some (position test xs)
any_has_position test [] = refl
any_has_position test (x ∷ xs) = elim (cases_Bool (test x)) [
  | inl here ↦ rw (here, lt-ltb 0 (suc (length xs)) (omega arith)) refl
  | inr other ↦ ap (λ (b : Bool). b || list_any test xs) other ∙ any_has_position test xs
      ∙ sym (ap is_some (position_later test x xs (position test xs) other refl) ∙ is_some-suc (position test xs))
]
  where
    is_some-suc : (o : Option ℕ) → is_some (option_map suc o) ≡ is_some o
    is_some-suc None = refl
    is_some-suc (Some k) = refl
