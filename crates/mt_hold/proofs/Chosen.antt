-- Whom a holding holds, told by how many others were received from better ranks.
use Rattle.std.proofs.Common.{◌≡◌, ℕ, zero, suc, ◌+◌, ◌<◌, ◌≤◌, true, refl, sym, ap, ◌∙◌, inl, inr, arith, ltb, ◌&&◌}
use Rattle.std.specs.List.{range_with_len}
use Rattle.std.proofs.lemmas.Bool.{cases_lt, cases_eq, ne_eqb, eq-eqb, and_parts, ltb-true, lt-ltb, le-ltb}
use Rattle.mt_terms.specs.Lists.{Set, has, above, below, count_below}
use Rattle.mt_terms.specs.Choice.{choice}
use Rattle.mt_hold.specs.Holding.{Holding, ranks, has_received, held}
use Rattle.mt_terms.proofs.Totals.{count_below-same}
use Rattle.mt_hold.proofs.Counting.{count_suc}

-- whether a rank below n is among the first `quota` members of a set
abbrev pub chosen : ℕ → ℕ → Set → Set
chosen quota n set rank = ltb rank n && set rank && ltb (count_below set rank) quota

has-range : (a n k : ℕ) → a ≤ k → has (range_with_len a n) k ≡ ltb k (a + n)
has-range a zero k h = sym (le-ltb k (a + 0) (omega arith))
has-range a (suc n) k h =
    elim (cases_eq a k) [
      | inl e ↦ rw (eq-eqb a k e) (sym (lt-ltb k (a + suc n) (omega arith)))
      | inr ne ↦ rw (ne_eqb a k ne) (has-range (a + 1) n k (omega arith) ∙ ap (ltb k) (omega arith))
    ]

has-below : (n k : ℕ) → has (below n) k ≡ ltb k n
has-below n k = has-range 0 n k (omega arith) ∙ ap (ltb k) (omega arith)

above-range : (s : Set) (a n k : ℕ) → a ≤ k → k < a + n → count_below s a + above s (range_with_len a n) k ≡ count_below s k
above-range s a zero k low high = absurd (omega arith)
above-range s a (suc n) k low high =
    elim (cases_eq a k) [
      | inl e ↦ rw (eq-eqb a k e) (omega (arith, ap (count_below s) e))
      | inr ne ↦ rw (ne_eqb a k ne) (omega (arith, above-range s (a + 1) n k (omega arith) (omega arith), count_suc s a))
    ]

pub above-below : (s : Set) (n k : ℕ) → k < n → above s (below n) k ≡ count_below s k
above-below s n k h = omega (arith, above-range s 0 n k (omega arith) (omega arith))

-- the choice among numbers in their order
choice-below : (quota n : ℕ) (set : Set) (rank : ℕ) → choice (record { quota = quota; ranking = below n }) set rank ≡ chosen quota n set rank
choice-below quota n set rank =
    elim (cases_lt rank n) [
      | inl low ↦ rw (has-below n rank, lt-ltb rank n low, above-below set n rank low) refl
      | inr high ↦ rw (has-below n rank, le-ltb rank n high) refl
    ]

chosen_same : (quota n : ℕ) (s t : Set) (rank : ℕ) → ((k : ℕ) → k < n → s k ≡ t k) → chosen quota n s rank ≡ chosen quota n t rank
chosen_same quota n s t rank same =
    elim (cases_lt rank n) [
      | inl low ↦ rw (same rank low, count_below-same s t rank (λ k h. same k (omega arith))) refl
      | inr high ↦ rw (le-ltb rank n high) refl
    ]

-- `held` is `chosen` from what was received
pub held-chosen : (h : Holding) (set : Set) → ((k : ℕ) → k < ranks h → has_received h k ≡ set k) → (rank : ℕ) → held h rank ≡ chosen h.quota (ranks h) set rank
unfolding held
held-chosen h set same rank =
    choice-below h.quota (ranks h) (has_received h) rank ∙ chosen_same h.quota (ranks h) (has_received h) set rank same

-- being chosen, as three facts
pub record IsChosen (quota n : ℕ) (set : Set) (rank : ℕ) : Type 0 where
  pub within : rank < n
  pub member : set rank ≡ true
  pub few : count_below set rank < quota

pub IsChosen-from : (quota n : ℕ) (set : Set) (rank : ℕ) → chosen quota n set rank ≡ true → IsChosen quota n set rank
IsChosen-from quota n set rank h =
    let a = and_parts (ltb rank n && set rank) (ltb (count_below set rank) quota) h in
    let b = and_parts (ltb rank n) (set rank) a.0 in
    record { within = ltb-true rank n b.0; member = b.1; few = ltb-true (count_below set rank) quota a.1 }
