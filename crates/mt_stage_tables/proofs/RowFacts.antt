-- The ranks of a set, as they are read in rising order.
use Rattle.std.proofs.Common.{◌≡◌, ◌∙◌, ℕ, ◌+◌, ◌<◌, ◌≤◌, Bool, true, false, ◌||◌, ◌==◌, List, [], ◌∷◌, ◌++◌, refl, ap, sym, subst, inl, inr, arith}
use Rattle.std.specs.List.Sorted.{IsStrictlySortedBy}
use Rattle.std.specs.Ordering.{nat_cmp}
use Rattle.std.proofs.Math.Bool.{or-false}
use Rattle.std.proofs.lemmas.Bool.{cases_eq, cases_lt, eq-eqb, eqb-true, false≢true, false_from_ne_true, ne_eqb, or_cases, or_left, or_right}
use Rattle.std.proofs.lemmas.Map.Keys.{sorted_tail}
use Rattle.mt_terms.specs.Lists.{has}
use Rattle.mt_terms.proofs.ListFacts.{has_push}
use Rattle.mt_bits.specs.Members.{is_in, IsFirstFrom}
use Rattle.mt_stage_tables.proofs.GrowingFacts.{has_parts}
use Rattle.mt_stage_tables.proofs.OrderFacts.{all_above, below_rest}

sorted_push : (ks : List ℕ) (k : ℕ) → IsStrictlySortedBy nat_cmp ks → ((r : ℕ) → has ks r ≡ true → r < k) → IsStrictlySortedBy nat_cmp (ks ++ k ∷ [])
unfolding IsStrictlySortedBy
sorted_push [] k sorted below = (tt, tt)
sorted_push (x ∷ xs) k sorted below = (
  all_above x (xs ++ k ∷ []) (λ r on. elim (has_parts xs k r on) [
    | inl before ↦ below_rest x xs sorted r before
    | inr here ↦ subst (λ n. x < n) here (below x (or_left (x == x) _ (eq-eqb x x refl)))
  ]),
  sorted_push xs k sorted.1 (λ r on. below r (or_right (x == r) _ on)),
)

-- So far the ranks of a set below a number were read.
pub record HasFront (told : List Bool) (next : ℕ) (ranks : List ℕ) : Type 0 where
  pub sorted : IsStrictlySortedBy nat_cmp ranks
  pub below : (r : ℕ) → has ranks r ≡ true → r < next
  pub same : (r : ℕ) → r < next → has ranks r ≡ is_in told r

pub front_none : (told : List Bool) → HasFront told 0 []
unfolding IsStrictlySortedBy
front_none told = record { sorted = tt; below = λ r on. absurd (false≢true on); same = λ r low. absurd (omega arith) }

pub front_more : (told : List Bool) (next r : ℕ) (ranks : List ℕ) → HasFront told next ranks → IsFirstFrom (is_in told) next r → HasFront told (r + 1) (ranks ++ r ∷ [])
front_more told next r ranks so_far is = record {
  sorted = sorted_push ranks r so_far.sorted (λ q on. let a = so_far.below q on in let b = is.not_below in omega arith);
  below = λ q on. elim (has_parts ranks r q on) [
    | inl before ↦ (let a = so_far.below q before in let b = is.not_below in omega arith)
    | inr here ↦ omega arith
  ];
  same = λ q low. has_push ranks r q ∙ at q low;
}
  where
    late : (q : ℕ) → next ≤ q → has ranks q ≡ false
    late q high = false_from_ne_true _ (λ on. let a = so_far.below q on in absurd (omega arith))

    at : (q : ℕ) → q < r + 1 → (has ranks q || (r == q)) ≡ is_in told q
    at q low = elim (cases_eq r q) [
      | inl here ↦ or_right (has ranks q) (r == q) (eq-eqb r q here) ∙ sym (ap (is_in told) (sym here) ∙ is.there)
      | inr other ↦ ap (λ (b : Bool). has ranks q || b) (ne_eqb r q other) ∙ or-false (has ranks q) ∙ elim (cases_lt q next) [
        | inl before ↦ so_far.same q before
        | inr after ↦ late q after ∙ sym (is.first q after (omega arith))
      ]
    ]

-- two lists that rise and have the same numbers are the same
pub same_members : (xs ys : List ℕ) → IsStrictlySortedBy nat_cmp xs → IsStrictlySortedBy nat_cmp ys → ((r : ℕ) → has xs r ≡ has ys r) → xs ≡ ys
same_members [] [] xs_rise ys_rise same = refl
same_members [] (y ∷ ys) xs_rise ys_rise same = absurd (false≢true (same y ∙ or_left (y == y) _ (eq-eqb y y refl)))
same_members (x ∷ xs) [] xs_rise ys_rise same = absurd (false≢true (sym (same x) ∙ or_left (x == x) _ (eq-eqb x x refl)))
same_members (x ∷ xs) (y ∷ ys) xs_rise ys_rise same =
    let xs_above = below_rest x xs xs_rise in
    let ys_above = below_rest y ys ys_rise in
    let first : x ≡ y = elim (or_cases (y == x) (has ys x) (sym (same x) ∙ or_left (x == x) _ (eq-eqb x x refl))) [
      | inl here ↦ sym (eqb-true y x here)
      | inr later ↦ elim (or_cases (x == y) (has xs y) (same y ∙ or_left (y == y) _ (eq-eqb y y refl))) [
        | inl here ↦ eqb-true x y here
        | inr later_too ↦ (let a = ys_above x later in let b = xs_above y later_too in absurd (omega arith))
      ]
    ] in
    let rest : (r : ℕ) → has xs r ≡ has ys r = λ r. elim (cases_eq x r) [
      | inl here ↦
          false_from_ne_true _ (λ on. let a = xs_above r on in absurd (omega arith)) ∙ sym (false_from_ne_true _ (λ on. let a = ys_above r on in absurd (omega arith)))
      | inr other ↦
          ap (λ (b : Bool). b || has xs r) (sym (ne_eqb x r other)) ∙ same r ∙ ap (λ (b : Bool). b || has ys r) (ne_eqb y r (λ e. other (first ∙ e)))
    ] in
    ap (λ z. z ∷ xs) first ∙ ap (λ zs. y ∷ zs) (same_members xs ys (sorted_tail nat_cmp x xs xs_rise) (sorted_tail nat_cmp y ys ys_rise) rest)
