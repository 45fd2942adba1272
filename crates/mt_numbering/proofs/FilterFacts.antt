-- A filter of a mapped list.
use Rattle.std.proofs.Common.{◌≡◌, Bool, true, false, List, [], ◌∷◌, map, refl, ap, cond}
use Rattle.std.specs.Prelude.{filter}

-- a filter of a mapped list
pub filter-map : {X Y : Type 0} (f : X → Y) (test : Y → Bool) (xs : List X) → map f (filter (λ x. test (f x)) xs) ≡ filter test (map f xs)
filter-map f test [] = refl
filter-map f test (x ∷ xs) = by (test (f x)) (filter-map f test xs)
  where
    by : (b : Bool) → map f (filter (λ y. test (f y)) xs) ≡ filter test (map f xs)
        → map f (cond b (x ∷ filter (λ y. test (f y)) xs) (filter (λ y. test (f y)) xs)) ≡ cond b (f x ∷ filter test (map f xs)) (filter test (map f xs))
    by true ih = ap (λ ys. f x ∷ ys) ih
    by false ih = ih
