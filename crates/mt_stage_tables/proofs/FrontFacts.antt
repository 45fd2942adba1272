-- Fronts and parts of lists.
use Rattle.std.proofs.Common.{◌≡◌, ◌∙◌, ℕ, zero, suc, ◌+◌, ◌<◌, Bool, true, false, List, [], ◌∷◌, take, length, get_or, refl, ap, subst, inl, inr, arith}
use Rattle.std.proofs.lemmas.Bool.{cases_lt}
use Rattle.mt_terms.specs.Lists.{until}

-- the default of a place within doesn't matter
pub read_any : {X : Type 0} (xs : List X) (i : ℕ) (d e : X) → i < length xs → get_or xs i d ≡ get_or xs i e
read_any [] i d e within = absurd (omega arith)
read_any (x ∷ xs) zero d e within = refl
read_any (x ∷ xs) (suc i) d e within = read_any xs i d e (omega arith)

-- what holds of the elements at the first places of a list, and of the next one
pub each_next : {X : Type 0} (P : X → Type 0) (xs : List X) (i : ℕ) (x d : X) → i < length xs → x ≡ get_or xs i x → ((j : ℕ) → j < i → P (get_or xs j d)) → P x
    → (j : ℕ) → j < i + 1 → P (get_or xs j d)
each_next P xs i x d within read before here j low = elim (cases_lt j i) [
  | inl earlier ↦ before j earlier
  | inr now ↦ (let e : i ≡ j = omega arith in subst (λ n. P (get_or xs n d)) e (subst P (read ∙ read_any xs i x d within) here))
]

-- what is at a place of a list's front is at that place of the list
pub until_front : {X : Type 0} (test : X → Bool) (xs : List X) (i : ℕ) (d : X) → i < length (until test xs) → (i < length xs) × (get_or (until test xs) i d ≡ get_or xs i d)
until_front {X} test [] i d within = absurd (omega arith)
until_front {X} test (x ∷ xs) i d within = by_head (test x) refl i within (until_front test xs)
  where
    by_head : (t : Bool) → test x ≡ t → (i : ℕ) → i < length (until test (x ∷ xs))
        → ((j : ℕ) (d : X) → j < length (until test xs) → (j < length xs) × (get_or (until test xs) j d ≡ get_or xs j d))
        → (i < suc (length xs)) × (get_or (until test (x ∷ xs)) i d ≡ get_or (x ∷ xs) i d)
    by_head true stops i inside later = (let none : i < 0 = rw stops at inside in absurd (omega arith))
    by_head false goes zero inside later = (omega arith, rw goes refl)
    by_head false goes (suc j) inside later =
        let deeper : suc j < suc (length (until test xs)) = rw goes at inside in
        let w = later j d (omega arith) in
        (omega (arith, w.0), rw goes w.1)

-- they are the front of the list, up to how many they are
pub until_take : {X : Type 0} (test : X → Bool) (xs : List X) → take (length (until test xs)) xs ≡ until test xs
until_take test [] = refl
until_take {X} test (x ∷ xs) = by_head (test x) refl (until_take test xs)
  where
    by_head : (t : Bool) → test x ≡ t → take (length (until test xs)) xs ≡ until test xs → take (length (until test (x ∷ xs))) (x ∷ xs) ≡ until test (x ∷ xs)
    by_head true stops later = rw stops refl
    by_head false goes later = rw goes (ap (λ ys. x ∷ ys) later)
