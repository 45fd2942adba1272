-- Lists of numbers without repeats: the numbers below n, a filter of them, and a list with one number taken out.
-- Also tests that agree, and images that agree on a list.
use Rattle.std.proofs.Common.{◌≡◌, ◌≢◌, ℕ, zero, suc, ◌+◌, ◌<◌, Bool, true, false, not, ◌&&◌, ◌==◌, nat_lt, List, [], ◌∷◌, ◌++◌, map, filter, length, flat_map, inl, inr, refl, ap₂, sym, ◌∙◌, arith, get_or, eqb-true, ne_eqb, lt-ltb, le-ltb}
use Rattle.std.specs.List.{range_with_len}
use Rattle.std.proofs.lemmas.Bool.{cases_Bool, cases_lt, and_parts, and_from, or_cases, or_left, or_right, or_from, both_ways, false≢true, false_from_ne_true, not-true, not_from_false}
use Rattle.std.proofs.lemmas.List.{length-map}
use Rattle.mt_terms.specs.Lists.{has, below, is_distinct}
use Rattle.mt_terms.proofs.BelowFacts.{length-map_below}
use Rattle.mt_terms.proofs.ListFacts.{has_front}
use Rattle.mt_round_laws.proofs.RoundsLists.{In, in_has, has_in, in_below, of_below}

pub and_swap : (x y : Bool) → (x && y) ≡ (y && x)
and_swap true true = refl
and_swap true false = refl
and_swap false true = refl
and_swap false false = refl

-- there are n numbers below n
pub length_below : (n : ℕ) → length (below n) ≡ n
length_below n = sym (length-map (below n) (λ c. c)) ∙ length-map_below (λ c. c) n

-- a number before a range is not in it
not_in_range : (a start n : ℕ) → a < start → has (range_with_len start n) a ≡ false
not_in_range a start zero l = refl
not_in_range a start (suc n) l =
    let ne : start ≢ a = omega arith in
    or_from (start == a) (has (range_with_len (start + 1) n) a) (ne_eqb start a ne) (not_in_range a (start + 1) n (omega arith))

range_distinct : (start n : ℕ) → is_distinct (range_with_len start n) ≡ true
range_distinct start zero = refl
range_distinct start (suc n) =
    and_from (not (has (range_with_len (start + 1) n) start)) (is_distinct (range_with_len (start + 1) n))
    (not_from_false _ (not_in_range start (start + 1) n (omega arith))) (range_distinct (start + 1) n)

-- the numbers below n have no repeats
pub below_distinct : (n : ℕ) → is_distinct (below n) ≡ true
below_distinct n = range_distinct 0 n

-- and are just those
pub has_below : (c n : ℕ) → has (below n) c ≡ nat_lt c n
has_below c n = elim (cases_lt c n) [
  | inl l ↦ in_has c (below n) (in_below c n l) ∙ sym (lt-ltb c n l)
  | inr past ↦
      let out : has (below n) c ≡ false =
      false_from_ne_true (has (below n) c) (λ on. let l : c < n = of_below c n (has_in c (below n) on) in absurd (omega arith)) in
      out ∙ sym (le-ltb c n past)
]

-- a listed number has a place
pub place_in : (xs : List ℕ) (c : ℕ) → has xs c ≡ true → (i : ℕ) × (i < length xs) × (get_or xs i 0 ≡ c)
place_in [] c h = absurd (false≢true h)
place_in (x ∷ xs) c h = elim (or_cases (x == c) (has xs c) h) [
  | inl here ↦ (0, omega arith, eqb-true x c here)
  | inr later ↦ (let w = place_in xs c later in (suc w.0, omega arith, w.2))
]

-- a list has one number more if one is put into it
pub has_put : (xs : List ℕ) (y : ℕ) (ys : List ℕ) (c : ℕ) → has (xs ++ ys) c ≡ true → has (xs ++ y ∷ ys) c ≡ true
has_put [] y ys c h = or_right (y == c) (has ys c) h
has_put (x ∷ xs) y ys c h = elim (or_cases (x == c) (has (xs ++ ys) c) h) [
  | inl here ↦ or_left (x == c) (has (xs ++ y ∷ ys) c) here
  | inr later ↦ or_right (x == c) (has (xs ++ y ∷ ys) c) (has_put xs y ys c later)
]

-- a list without repeats has none once one number is taken out
pub distinct_without : (xs : List ℕ) (y : ℕ) (ys : List ℕ) → is_distinct (xs ++ y ∷ ys) ≡ true → is_distinct (xs ++ ys) ≡ true
distinct_without [] y ys d = (and_parts (not (has ys y)) (is_distinct ys) d).1
distinct_without (x ∷ xs) y ys d =
    let parts = and_parts (not (has (xs ++ y ∷ ys) x)) (is_distinct (xs ++ y ∷ ys)) d in
    let out : has (xs ++ ys) x ≡ false =
    false_from_ne_true (has (xs ++ ys) x) (λ on. both_ways (has (xs ++ y ∷ ys) x) (not-true _ parts.0) (has_put xs y ys x on)) in
    and_from (not (has (xs ++ ys) x)) (is_distinct (xs ++ ys)) (not_from_false _ out) (distinct_without xs y ys parts.1)

-- the front of a list without repeats has none
pub distinct_front : (xs ys : List ℕ) → is_distinct (xs ++ ys) ≡ true → is_distinct xs ≡ true
distinct_front [] ys d = refl
distinct_front (x ∷ xs) ys d =
    let parts = and_parts (not (has (xs ++ ys) x)) (is_distinct (xs ++ ys)) d in
    let out : has xs x ≡ false =
    false_from_ne_true (has xs x) (λ on. both_ways (has (xs ++ ys) x) (not-true _ parts.0) (has_front xs ys x on)) in
    and_from (not (has xs x)) (is_distinct xs) (not_from_false _ out) (distinct_front xs ys parts.1)

-- images that agree on a list
pub same_map : {X Y : Type 0} (f g : X → Y) (xs : List X) → ((x : X) → In x xs → f x ≡ g x) → map f xs ≡ map g xs
same_map f g [] h = refl
same_map f g (x ∷ xs) h = ap₂ ◌∷◌ (h x (inl refl)) (same_map f g xs (λ y i. h y (inr i)))

pub same_flat_map : {X Y : Type 0} (f g : X → List Y) (xs : List X) → ((x : X) → In x xs → f x ≡ g x) → flat_map f xs ≡ flat_map g xs
same_flat_map f g [] h = refl
same_flat_map f g (x ∷ xs) h = ap₂ ◌++◌ (h x (inl refl)) (same_flat_map f g xs (λ y i. h y (inr i)))

-- filters of two images that keep the same, which agree on what is kept
pub same_kept : {X Y : Type 0} (f g : X → Y) (s t : Y → Bool) (xs : List X)
    → ((x : X) → (s (f x) ≡ t (g x)) × (s (f x) ≡ true → f x ≡ g x)) → filter s (map f xs) ≡ filter t (map g xs)
same_kept f g s t [] h = refl
same_kept f g s t (x ∷ xs) h = elim (cases_Bool (s (f x))) [
  | inl kept ↦
      let other : t (g x) ≡ true = sym (h x).0 ∙ kept in
      rw (kept, other) (ap₂ ◌∷◌ ((h x).1 kept) (same_kept f g s t xs h))
  | inr dropped ↦ (let other : t (g x) ≡ false = sym (h x).0 ∙ dropped in rw (dropped, other) (same_kept f g s t xs h))
]
