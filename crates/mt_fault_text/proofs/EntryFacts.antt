-- Sums over the first programs, applicants or couples of a market.
-- One step adds the next term, and no such sum is more than that over all.
use Rattle.std.proofs.Common.{◌≡◌, ℕ, ◌+◌, ◌<◌, ◌≤◌, List, [], ◌∷◌, length, take, get_or, ap, ◌∙◌, arith}
use Rattle.std.specs.List.{sum_by}
use Rattle.std.proofs.lemmas.List.{take_more}
use Rattle.std.proofs.lemmas.List.Sums.{sum_by-append, sum_by-take-le}

pub sum_more : {X : Type 0} (f : X → ℕ) (xs : List X) (i : ℕ) (d : X) → i < length xs → sum_by f (take (i + 1) xs) ≡ sum_by f (take i xs) + f (get_or xs i d)
sum_more f xs i d within =
    let next = sum_by-append f (take i xs) (get_or xs i d ∷ []) in
    ap (sum_by f) (take_more xs i d within) ∙ next ∙ omega arith

pub sum_within : {X : Type 0} (f : X → ℕ) (xs : List X) (i : ℕ) (d : X) → i < length xs → sum_by f (take i xs) + f (get_or xs i d) ≤ sum_by f xs
sum_within f xs i d within = omega (arith, sum_more f xs i d within, sum_by-take-le f xs (i + 1))
