-- How many of a set stand above an applicant: the reason that a program that nobody left refuses whom it
-- refused before.
use Rattle.std.proofs.Common.{◌≡◌, ℕ, ◌+◌, ◌<◌, ◌≤◌, true, false, ◌==◌, List, [], ◌∷◌, ◌⊎◌, inl, inr, refl, arith, eq-eqb}
use Rattle.std.proofs.lemmas.Bool.{cases_lt, or_left, or_right, both_ways}
use Rattle.mt_terms.specs.Lists.{Set, has, until, count, above, is_distinct}
use Rattle.mt_terms.specs.Market.{Program}
use Rattle.mt_terms.specs.Choice.{choice}
use Rattle.mt_stability_laws.proofs.ListLemmas.{above-le, has-until, one_not_of}
use Rattle.mt_stability_laws.proofs.FloorChoices.{above-choice}
use Rattle.mt_stability_laws.proofs.Seats.{above-le-count}

-- the head of a list stands on it
pub has_head : (x : ℕ) (xs : List ℕ) → has (x ∷ xs) x ≡ true
has_head x xs = or_left (x == x) (has xs x) (eq-eqb x x refl)

-- the rest of a list stands on it
pub has_rest : (x : ℕ) (xs : List ℕ) (a : ℕ) → has xs a ≡ true → has (x ∷ xs) a ≡ true
has_rest x xs a h = or_right (x == a) (has xs a) h

-- a set that has on a list what another has there has at least as many there
pub count_within : (s t : Set) (xs : List ℕ) → ((a : ℕ) → has xs a ≡ true → s a ≡ true → t a ≡ true) → count s xs ≤ count t xs
count_within s t [] h = omega arith
count_within s t (x ∷ xs) h =
    let rest = count_within s t xs (λ a i. h a (has_rest x xs a i)) in
    let head = h x (has_head x xs) in
    grind (arith, rest, head)

-- If each of the old who is gone was refused of those who would be there, and each that is chosen of them is
-- there now, no fewer stand above anybody than before.
pub no_fewer_above : (p : Program) (old would new : Set) → is_distinct p.ranking ≡ true → count old p.ranking ≤ p.quota
    → ((a : ℕ) → old a ≡ true → new a ≡ false → (would a ≡ true) × (choice p would a ≡ false)) → ((a : ℕ) → choice p would a ≡ true → new a ≡ true)
    → (b : ℕ) → above old p.ranking b ≤ above new p.ranking b
no_fewer_above p old would new once within gone kept b =
    elim (cases_lt (above new p.ranking b) (above old p.ranking b)) [ inr le ↦ le | inl less ↦ absurd (impossible less) ]
  where
    impossible : above new p.ranking b < above old p.ranking b → ⊥
    impossible less =
        let x = one_not_of old new (until (λ y. y == b) p.ranking) less in
        let refused = gone x.0 x.2 x.3 in
        let full = above-choice p would x.0 once (has-until (λ y. y == b) p.ranking x.0 x.1) refused.0 refused.1 in
        let top = above-le-count old p.ranking b in
        let higher = above-le new p.ranking b x.0 x.1 in
        let y = one_not_of (choice p would) new (until (λ z. z == x.0) p.ranking) (omega arith) in
        both_ways (new y.0) y.3 (kept y.0 y.2)

-- sets that differ alike have counts that differ alike
pub count_shift : (s t old new : Set) (xs : List ℕ)
    → ((a : ℕ) → ((s a ≡ t a) × (old a ≡ new a)) ⊎ ((s a ≡ old a) × (t a ≡ new a)))
    → count s xs + count new xs ≡ count t xs + count old xs
count_shift s t old new [] h = refl
count_shift s t old new (x ∷ xs) h =
    let rest = count_shift s t old new xs h in
    elim (h x) [ inl e ↦ rw (e.0, e.1) (omega arith) | inr e ↦ rw (e.0, e.1) (omega arith) ]
