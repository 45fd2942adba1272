-- Lists in ascending order: an element that stands twice stands next to itself.
use Rattle.std.proofs.Common.{◌≡◌, ℕ, ◌+◌, ◌-◌, ◌<◌, Bool, true, false, not, List, [], ◌∷◌, length, get_or, Ordering, Less, Equal, Greater, refl, ap, sym, ◌∙◌, arith}
use Rattle.std.specs.Cmp.{IsTotalOrder}
use Rattle.std.specs.List.{AllAdjacentBelow, AllByRecursion, IsDistinct, list_any}
use Rattle.std.specs.List.Sorted.{IsPermutation, IsSorted}
use Rattle.std.specs.Ordering.{eq_by_cmp, is_eq, is_lt, ordering_reverse}
use Rattle.std.proofs.lemmas.Bool.{and_parts, not-true}
use Rattle.std.proofs.lemmas.Cmp.{eq_by_cmp_equiv}
use Rattle.std.proofs.lemmas.List.{get_or_default}
use Rattle.std.proofs.lemmas.List.Sorted.{IsPermutation-sym}
use Rattle.std.proofs.lemmas.Map.Keys.{IsDistinct-head, IsDistinct-tail, IsDistinct-cons, IsDistinct-from_apart, IsDistinct-from_sorted, IsDistinct-IsPermutation, apart_from_distinct, sorted_from_all_adjacent}
use Rattle.mt_record_laws.proofs.IdFacts.{neither, not_true}
use Rattle.mt_terms.specs.Registration.Ids.{all_differ}

-- no element stands twice, as std says it
module _ {X : Type 0} (same : X → X → Bool) where
  apart : (x : X) (xs : List X) → AllByRecursion (λ y. same x y ≡ false) xs → list_any (same x) xs ≡ false
  apart x [] h = refl
  apart x (y ∷ ys) h = rw (h.0, apart x ys h.1) refl

  each_apart : (x : X) (xs : List X) → list_any (same x) xs ≡ false → AllByRecursion (λ y. same x y ≡ false) xs
  each_apart x [] h = tt
  each_apart x (y ∷ ys) h = let parts = neither (same x y) (list_any (same x) ys) h in (parts.0, each_apart x ys parts.1)

  to_distinct : (xs : List X) → all_differ same xs ≡ true → IsDistinct same xs
  to_distinct [] h = IsDistinct-from_apart same [] (λ i j d l m. absurd (omega arith))
  to_distinct (x ∷ xs) h = let parts = and_parts (not (list_any (same x) xs)) _ h in IsDistinct-cons same x xs (each_apart x xs (not-true _ parts.0)) (to_distinct xs parts.1)

  from_distinct : (xs : List X) → IsDistinct same xs → all_differ same xs ≡ true
  from_distinct [] h = refl
  from_distinct (x ∷ xs) h = rw (apart x xs (IsDistinct-head same x xs h), from_distinct xs (IsDistinct-tail same x xs h)) refl

  -- two neighbours are the same
  next_to_itself : (xs : List X) (k : ℕ) (d : X) → k + 1 < length xs → same (get_or xs k d) (get_or xs (k + 1) d) ≡ true → all_differ same xs ≡ false
  next_to_itself xs k d l h = not_true _ (λ all. let other = apart_from_distinct same xs k (k + 1) d (to_distinct xs all) (omega arith) l in cc)

  -- the same of what stands before a place and at it
  pub same_before : (xs : List X) (i : ℕ) (x y : X) → 0 < i → i < length xs → x ≡ get_or xs (i - 1) x → y ≡ get_or xs i y → same x y ≡ true → all_differ same xs ≡ false
  same_before xs i x y some within before here h =
      let back : i - 1 + 1 ≡ i = omega arith in
      let next : get_or xs (i - 1 + 1) x ≡ y = ap (λ (j : ℕ). get_or xs j x) back ∙ get_or_default xs i x y within ∙ sym here in
      next_to_itself xs (i - 1) x (omega arith) (ap (λ (z : X). same z (get_or xs (i - 1 + 1) x)) (sym before) ∙ ap (same x) next ∙ h)

-- Elements are the same if neither is less.
module _ {X : Type 0} {R : X → X → Ordering} (total : IsTotalOrder R) (same : X → X → Bool) (ties : (x y : X) → same x y ≡ eq_by_cmp R x y) where
  flips : (x y : X) → same x y ≡ same y x
  flips x y = let equal = eq_by_cmp_equiv total in ties x y ∙ equal.symm x y ∙ sym (ties y x)

  -- two elements in order that differ
  less : (x y : X) → is_lt (R y x) ≡ false → same x y ≡ false → R x y ≡ Less
  less x y up other = by (R x y) (R y x) (total.antisymm x y) up (sym (ties x y) ∙ other)
    where
      by : (o u : Ordering) → o ≡ ordering_reverse u → is_lt u ≡ false → is_eq o ≡ false → o ≡ Less
      by Less u e up other = refl
      by Equal u e up other = cc
      by Greater Less e up other = cc
      by Greater Equal e up other = cc
      by Greater Greater e up other = cc

  -- a list in order, of which no two neighbours are the same
  pub differ_in_order : (xs : List X) → IsSorted R xs → AllAdjacentBelow (λ x y. same x y ≡ false) xs (length xs) → all_differ same xs ≡ true
  differ_in_order [] up apart = refl
  differ_in_order (x ∷ xs) up apart =
      let rising = sorted_from_all_adjacent total (x ∷ xs) x (λ k l. less _ _ (up k x (omega arith) l) (apart k x l)) in
      let distinct = IsDistinct-from_sorted R (x ∷ xs) rising in
      from_distinct same (x ∷ xs) (IsDistinct-from_apart same (x ∷ xs) (λ i j d l m. ties _ _ ∙ apart_from_distinct (eq_by_cmp R) (x ∷ xs) i j d distinct l m))

  -- the order of a list doesn't matter
  pub differ_in_any_order : (xs ys : List X) → IsPermutation xs ys → all_differ same xs ≡ all_differ same ys
  differ_in_any_order xs ys moved = by (all_differ same xs) (all_differ same ys) (along xs ys moved) (along ys xs (IsPermutation-sym xs ys moved))
    where
      along : (us vs : List X) → IsPermutation us vs → all_differ same us ≡ true → all_differ same vs ≡ true
      along us vs moved h = from_distinct same vs (IsDistinct-IsPermutation same flips us vs moved (to_distinct same us h))

      by : (a b : Bool) → (a ≡ true → b ≡ true) → (b ≡ true → a ≡ true) → a ≡ b
      by true b f g = sym (f refl)
      by false true f g = g refl
      by false false f g = refl
