-- Lists that are made of what passes a test: an element and what is beside it, the first of them, what is so of each.
use Rattle.std.proofs.Common.{◌≡◌, ℕ, zero, suc, ◌+◌, ◌<◌, ◌≤◌, Bool, true, false, List, [], ◌∷◌, ◌++◌, map, filter, length, get_or, Some, None, IsTrue, if◌then◌else◌, refl, ap, sym, ◌∙◌, subst, inl, inr, arith}
use Rattle.std.specs.List.{All, find, flat_map, list_any, range_with_len}
use Rattle.std.proofs.lemmas.Bool.{cases_Bool}
use Rattle.std.proofs.lemmas.List.{map-append}
use Rattle.std.proofs.lemmas.List.Elements.{All-append, All-cons, filter-append}
use Rattle.mt_terms.specs.Lists.{Set}

-- Below, some elements give what passes a test.
module _ {X Y : Type 0} (f : X → Y) (test : X → Bool) where
  passing-append : (us vs : List X) → map f (filter test (us ++ vs)) ≡ map f (filter test us) ++ map f (filter test vs)
  passing-append us vs = ap (map f) (filter-append test us vs) ∙ map-append f (filter test us) (filter test vs)

  passing_one : (x : X) → map f (filter test (x ∷ [])) ≡ (if test x then f x ∷ [] else [])
  passing_one x = elim (cases_Bool (test x)) [
    | inl passes ↦ rw passes refl
    | inr fails ↦ rw fails refl
  ]

  -- with one element more
  pub passing_more : (us : List X) (x : X) → map f (filter test us) ++ (if test x then f x ∷ [] else []) ≡ map f (filter test (us ++ x ∷ []))
  passing_more us x = ap (λ (ys : List Y). map f (filter test us) ++ ys) (sym (passing_one x)) ∙ sym (passing-append us (x ∷ []))

  -- up to an element, with it, and after it
  pub passing_around : (us : List X) (x : X) (vs : List X)
      → map f (filter test us) ++ ((if test x then f x ∷ [] else []) ++ map f (filter test vs)) ≡ map f (filter test (us ++ x ∷ vs))
  passing_around us x vs =
      ap (λ (ys : List Y). map f (filter test us) ++ (ys ++ map f (filter test vs))) (sym (passing_one x))
      ∙ ap (λ (ys : List Y). map f (filter test us) ++ ys) (sym (passing-append (x ∷ []) vs))
      ∙ sym (passing-append us (x ∷ vs))

-- a list begins with an element
pub record BeginsWith {X : Type 0} (x : X) (xs : List X) : Type 0 where
  pub rest : List X
  pub is : xs ≡ x ∷ rest

-- what a search finds is the first that passes, and if it finds none, none passes
pub one_found : {X : Type 0} (test : X → Bool) (xs : List X) (x : X) → find test xs ≡ Some x → BeginsWith x (filter test xs)
one_found test [] x found = absurd (cc)
one_found {X} test (y ∷ ys) x found = elim (cases_Bool (test y)) [
  | inl here ↦
      let e : Some y ≡ Some x = rw here at found in
      let same : y ≡ x = cc in
      record { rest = filter test ys; is = rw here (ap (λ (z : X). z ∷ filter test ys) same) }
  | inr other ↦
      let later = one_found test ys x (rw other at found) in
      record { rest = later.rest; is = rw other later.is }
]

pub found_passes : {X : Type 0} (test : X → Bool) (xs : List X) (x : X) → find test xs ≡ Some x → IsTrue (test x)
found_passes test [] x found = absurd (cc)
found_passes {X} test (y ∷ ys) x found = elim (cases_Bool (test y)) [
  | inl here ↦
      let e : Some y ≡ Some x = rw here at found in
      let same : y ≡ x = cc in
      subst (λ (z : X). IsTrue (test z)) same here
  | inr other ↦ found_passes test ys x (rw other at found)
]

pub none_found : {X : Type 0} (test : X → Bool) (xs : List X) → find test xs ≡ None → filter test xs ≡ []
none_found test [] none = refl
none_found test (y ∷ ys) none = elim (cases_Bool (test y)) [
  | inl here ↦ (let e : Some y ≡ None = rw here at none in absurd (cc))
  | inr other ↦ rw other (none_found test ys (rw other at none))
]

-- what elements give begins with what the first of them gives that gives anything
pub gives_first : {X Y : Type 0} (f : X → List Y) (test : X → Bool) → ((x : X) → test x ≡ false → f x ≡ []) → (xs : List X) (x : X) (y : Y)
    → find test xs ≡ Some x → BeginsWith y (f x) → BeginsWith y (flat_map f xs)
gives_first f test none [] x y found first = absurd (cc)
gives_first {X} {Y} f test none (z ∷ zs) x y found first = elim (cases_Bool (test z)) [
  | inl here ↦
      let e : Some z ≡ Some x = rw here at found in
      let same : z ≡ x = cc in
      record { rest = first.rest ++ flat_map f zs; is = ap (λ (w : X). f w ++ flat_map f zs) same ∙ ap (λ (ys : List Y). ys ++ flat_map f zs) first.is }
  | inr other ↦
      let later = gives_first f test none zs x y (rw other at found) first in
      record { rest = later.rest; is = ap (λ (ys : List Y). ys ++ flat_map f zs) (none z other) ∙ later.is }
]

pub gives_none : {X Y : Type 0} (f : X → List Y) (test : X → Bool) → ((x : X) → test x ≡ false → f x ≡ []) → (xs : List X)
    → find test xs ≡ None → flat_map f xs ≡ []
gives_none f test none [] found = refl
gives_none {X} {Y} f test none (z ∷ zs) found = elim (cases_Bool (test z)) [
  | inl here ↦ (let e : Some z ≡ None = rw here at found in absurd (cc))
  | inr other ↦ ap (λ (ys : List Y). ys ++ flat_map f zs) (none z other) ∙ gives_none f test none zs (rw other at found)
]

-- a test that nothing passes fails at each place
pub fails_at : {X : Type 0} (test : X → Bool) (xs : List X) (k : ℕ) (d : X) → list_any test xs ≡ false → k < length xs → test (get_or xs k d) ≡ false
fails_at test [] k d none within = absurd (omega arith)
fails_at test (x ∷ xs) zero d none within = elim (cases_Bool (test x)) [
  | inl here ↦ (let e : true ≡ false = rw here at none in absurd (cc))
  | inr other ↦ other
]
fails_at test (x ∷ xs) (suc k) d none within = elim (cases_Bool (test x)) [
  | inl here ↦ (let e : true ≡ false = rw here at none in absurd (cc))
  | inr other ↦ fails_at test xs k d (rw other at none) (omega arith)
]

-- what is so of each
pub all_passing : {X Y : Type 0} (P : Y → Type 0) (f : X → Y) (test : X → Bool) → ((x : X) → P (f x)) → (xs : List X) → All P (map f (filter test xs))
all_passing P f test each [] = λ i d h. absurd (omega arith)
all_passing P f test each (x ∷ xs) = elim (cases_Bool (test x)) [
  | inl here ↦ rw here (All-cons P (f x) (map f (filter test xs)) (each x) (all_passing P f test each xs))
  | inr other ↦ rw other (all_passing P f test each xs)
]

pub all_in_range : {Y : Type 0} (P : Y → Type 0) (f : ℕ → Y) (test : Set) (top low n : ℕ) → low + n ≤ top → ((k : ℕ) → k < top → P (f k))
    → All P (map f (filter test (range_with_len low n)))
all_in_range P f test top low zero within each = λ i d h. absurd (omega arith)
all_in_range P f test top low (suc n) within each =
    let later = all_in_range P f test top (low + 1) n (omega arith) each in
    elim (cases_Bool (test low)) [
      | inl here ↦ rw here (All-cons P (f low) (map f (filter test (range_with_len (low + 1) n))) (each low (omega arith)) later)
      | inr other ↦ rw other later
    ]

pub all_given : {X Y : Type 0} (P : Y → Type 0) (f : X → List Y) → ((x : X) → All P (f x)) → (xs : List X) → All P (flat_map f xs)
all_given P f each [] = λ i d h. absurd (omega arith)
all_given P f each (x ∷ xs) = All-append P (f x) (flat_map f xs) (each x) (all_given P f each xs)
