-- Sums in which one term is changed.
use Rattle.std.proofs.Common.{◌≡◌, ℕ, zero, suc, ◌+◌, ◌*◌, ◌<◌, refl, sym, arith, ◌≢◌, ◌⊎◌, inl, inr, subst}
use Rattle.std.proofs.lemmas.Bool.{cases_eq}
use Rattle.mt_terms.specs.Lists.{total_below}
use Rattle.mt_terms.proofs.Totals.{total_below-same}

-- the step of the next lemma
one_more_step : (f g : ℕ → ℕ) (n a d : ℕ) → g a ≡ d + f a → ((b : ℕ) → b ≢ a → g b ≡ f b)
    → (a < n → total_below g n ≡ d + total_below f n) → a < suc n → total_below g (suc n) ≡ d + total_below f (suc n)
one_more_step f g n a d more same before a_below = last_or_before (cases_eq n a)
  where
    last_or_before : (n ≡ a) ⊎ (n ≢ a) → total_below g (suc n) ≡ d + total_below f (suc n)
    last_or_before (inl here) =
        let rest = total_below-same g f n (λ b h. same b (omega arith)) in
        let top : g n ≡ d + f n = subst (λ (x : ℕ). g x ≡ d + f x) (sym here) more in
        omega (arith, rest, top)
    last_or_before (inr other) = omega (arith, same n other, before (omega arith))

-- a sum of which one term is larger by d
pub total_below-one_more : (f g : ℕ → ℕ) (n a d : ℕ) → g a ≡ d + f a → ((b : ℕ) → b ≢ a → g b ≡ f b) → a < n → total_below g n ≡ d + total_below f n
total_below-one_more f g zero a d more same a_below = absurd (omega arith)
total_below-one_more f g (suc n) a d more same a_below = one_more_step f g n a d more same (total_below-one_more f g n a d more same) a_below

-- twice a sum
pub total_below-twice : (f : ℕ → ℕ) (n : ℕ) → total_below (λ a. 2 * f a) n ≡ 2 * total_below f n
total_below-twice f zero = refl
total_below-twice f (suc n) = omega (arith, total_below-twice f n)
