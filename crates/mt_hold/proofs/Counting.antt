-- How many members of a set stand below a number.
use Rattle.std.proofs.Common.{◌≡◌, ℕ, zero, suc, ◌+◌, ◌<◌, ◌≤◌, Bool, true, false, cond, refl, inl, inr, arith, add-one}
use Rattle.std.proofs.lemmas.Bool.{cases_eq}
use Rattle.mt_terms.specs.Lists.{Set, with_one, count_below}
use Rattle.mt_terms.proofs.Totals.{count_below-same}
use Rattle.mt_terms.proofs.ListFacts.{with_one-other}
use Rattle.mt_bits.proofs.Flags.{with_one_same}

pub count_suc : (s : Set) (k : ℕ) → count_below s (k + 1) ≡ cond (s k) 1 0 + count_below s k
count_suc s k = rw add-one refl

pub count_in : (s : Set) (k : ℕ) → s k ≡ true → count_below s (k + 1) ≡ count_below s k + 1
count_in s k h = rw (count_suc s k, h) (omega arith)

step_up : (b : Bool) (m : ℕ) → m ≤ cond b 1 0 + m
step_up true m = omega arith
step_up false m = omega arith

pub count-le : (s : Set) (j k : ℕ) → j ≤ k → count_below s j ≤ count_below s k
count-le s j zero h = let e : j ≡ 0 = omega arith in rw e (omega arith)
count-le s j (suc k) h =
    elim (cases_eq j (suc k)) [
      | inl e ↦ rw e (omega arith)
      | inr ne ↦ omega (arith, count-le s j k (omega arith), step_up (s k) (count_below s k))
    ]

pub count_past : (s : Set) (j k : ℕ) → s j ≡ true → j < k → count_below s j < count_below s k
count_past s j k h l = omega (arith, count-le s (j + 1) k (omega arith), count_in s j h)

pub count_most : (s : Set) (k : ℕ) → count_below s k ≤ k
count_most s zero = omega arith
count_most s (suc k) = omega (arith, count_most s k, at_most_one (s k))
  where
    at_most_one : (b : Bool) → cond b 1 0 ≤ 1
    at_most_one true = omega arith
    at_most_one false = omega arith

-- no member from a up to b
pub count_flat : (s : Set) (a b : ℕ) → a ≤ b → ((k : ℕ) → a ≤ k → k < b → s k ≡ false) → count_below s b ≡ count_below s a
count_flat s a zero h none = let e : a ≡ 0 = omega arith in rw e refl
count_flat s a (suc b) h none =
    elim (cases_eq a (suc b)) [
      | inl e ↦ rw e refl
      | inr ne ↦ rw (none b (omega arith) (omega arith)) (omega (arith, count_flat s a b (omega arith) (λ k l m. none k l (omega arith))))
    ]

-- one member more counts above it, and not at it or below
pub count-with_one_below : (s : Set) (r k : ℕ) → k ≤ r → count_below (with_one s r) k ≡ count_below s k
count-with_one_below s r k h = count_below-same (with_one s r) s k (λ j l. with_one-other s r j (omega arith))

pub count-with_one_above : (s : Set) (r k : ℕ) → s r ≡ false → r < k → count_below (with_one s r) k ≡ count_below s k + 1
count-with_one_above s r zero out h = absurd (omega arith)
count-with_one_above s r (suc k) out h =
    elim (cases_eq k r) [
      | inl e ↦ rw (e, with_one_same s r, out) (omega (arith, count-with_one_below s r r (omega arith)))
      | inr ne ↦ rw (with_one-other s r k ne) (omega (arith, count-with_one_above s r k out (omega arith)))
    ]

-- a number that isn't a member leaves fewer members than numbers
pub count_missing : (s : Set) (n r : ℕ) → r < n → s r ≡ false → count_below s n + 1 ≤ n
count_missing s n r low out = omega (arith, count-with_one_above s r n out low, count_most (with_one s r) n)
