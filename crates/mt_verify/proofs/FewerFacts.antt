-- How many of rising numbers are below another one, as one of them tells.
use Rattle.std.proofs.Common.{◌≡◌, ℕ, zero, suc, ◌+◌, ◌<◌, ◌≤◌, nat_lt, nat_le, true, false, List, [], ◌∷◌, length, get_or, inl, inr, arith}
use Rattle.std.specs.List.Sorted.{IsNonDecreasing}
use Rattle.std.proofs.lemmas.Bool.{cases_lt}
use Rattle.std.proofs.lemmas.Bool.Decides.{nat_tests}
use Rattle.mt_terms.specs.Lists.{count}
use Rattle.mt_stability_laws.proofs.ListLemmas.{count_none}

none_fewer : (c k rank x : ℕ) → c ≡ 0 → rank ≤ x → nat_lt c (k + 1) ≡ nat_le rank x
none_fewer c k rank x none low = grind (arith, nat_tests)

one_not_fewer : (c rank x : ℕ) → x < rank → nat_lt (1 + c) 1 ≡ nat_le rank x
one_not_fewer c rank x low = grind (arith, nat_tests)

one_more_fewer : (c k rank x : ℕ) → nat_lt c (k + 1) ≡ nat_le rank x → nat_lt (1 + c) (suc k + 1) ≡ nat_le rank x
one_more_fewer c k rank x h = grind (arith, nat_tests, h)

not_below : (x rank : ℕ) → rank ≤ x → nat_lt x rank ≡ false
not_below x rank h = grind (arith, nat_tests)

is_below : (x rank : ℕ) → x < rank → nat_lt x rank ≡ true
is_below x rank h = grind (arith, nat_tests)

none_below : (x : ℕ) (xs : List ℕ) (rank d : ℕ) → IsNonDecreasing (x ∷ xs) → rank ≤ x → count (λ r. nat_lt r rank) (x ∷ xs) ≡ 0
none_below x xs rank d up high =
    count_none (λ r. nat_lt r rank) (x ∷ xs) d (λ j i. not_below (get_or (x ∷ xs) j d) rank (omega (arith, up 0 j d (omega arith) i, high)))

-- no more than k are below if the one at k isn't
pub fewer_at : (xs : List ℕ) (k rank d : ℕ) → IsNonDecreasing xs → k < length xs → nat_lt (count (λ r. nat_lt r rank) xs) (k + 1) ≡ nat_le rank (get_or xs k d)
fewer_at [] k rank d up w = absurd (omega arith)
fewer_at (x ∷ xs) zero rank d up w = elim (cases_lt x rank) as (λ o. nat_lt (count (λ r. nat_lt r rank) (x ∷ xs)) 1 ≡ nat_le rank x) [
  | inl low ↦ rw (is_below x rank low) (one_not_fewer (count (λ r. nat_lt r rank) xs) rank x low)
  | inr high ↦ none_fewer (count (λ r. nat_lt r rank) (x ∷ xs)) 0 rank x (none_below x xs rank d up high) high
]
fewer_at (x ∷ xs) (suc k) rank d up w = elim (cases_lt x rank) as (λ o. nat_lt (count (λ r. nat_lt r rank) (x ∷ xs)) (suc k + 1) ≡ nat_le rank (get_or xs k d)) [
  | inl low ↦
      rw (is_below x rank low)
      (one_more_fewer (count (λ r. nat_lt r rank) xs) k rank (get_or xs k d) (fewer_at xs k rank d (λ i j e order within. up (suc i) (suc j) e (omega arith) (omega arith)) (omega arith)))
  | inr high ↦
      none_fewer (count (λ r. nat_lt r rank) (x ∷ xs)) (suc k) rank (get_or xs k d) (none_below x xs rank d up high) (omega (arith, up 0 (suc k) d (omega arith) w, high))
]

-- of fewer numbers fewer are below
pub fewer_past : (c n k : ℕ) → c ≤ n → n ≤ k → nat_lt c (k + 1) ≡ true
fewer_past c n k some past = grind (arith, nat_tests)
