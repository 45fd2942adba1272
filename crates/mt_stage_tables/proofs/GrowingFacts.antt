-- What holds of each number of a list's front, and of a list that a number more is put at the end of.
use Rattle.std.proofs.Common.{◌≡◌, ◌∙◌, ℕ, ◌≤◌, true, false, ◌==◌, List, [], ◌∷◌, ◌++◌, take, length, refl, ap, sym, inl, inr, ◌⊎◌}
use Rattle.std.proofs.lemmas.List.{take_all}
use Rattle.std.proofs.lemmas.List.Folds.{list_any-append}
use Rattle.std.proofs.lemmas.Bool.{or_cases, or_left, or_right, eq-eqb, eqb-true}
use Rattle.std.proofs.Math.Bool.{or-false}
use Rattle.mt_terms.specs.Lists.{has}

-- what holds of each number of a front that is the whole list holds of each number of the list
pub each_all : (P : ℕ → Type 0) (xs : List ℕ) (i : ℕ) → length xs ≤ i → ((y : ℕ) → has (take i xs) y ≡ true → P y) → (y : ℕ) → has xs y ≡ true → P y
each_all P xs i past all y on = all y (ap (λ ys. has ys y) (take_all i xs past) ∙ on)

-- a number more at the end of a list
pub has_end : (xs : List ℕ) (x : ℕ) → has (xs ++ x ∷ []) x ≡ true
has_end xs x = list_any-append (λ y. y == x) xs (x ∷ []) ∙ or_right (has xs x) _ (or_left (x == x) false (eq-eqb x x refl))

pub has_parts : (xs : List ℕ) (x y : ℕ) → has (xs ++ x ∷ []) y ≡ true → (has xs y ≡ true) ⊎ (x ≡ y)
has_parts xs x y on = elim (or_cases (has xs y) (has (x ∷ []) y) (sym (list_any-append (λ z. z == y) xs (x ∷ [])) ∙ on)) [
  | inl earlier ↦ inl earlier
  | inr now ↦ inr (eqb-true x y (sym (or-false (x == y)) ∙ now))
]
