-- A column that is made row by row.
use Rattle.std.proofs.Common.{◌≡◌, ℕ, ◌+◌, ◌<◌, List, [], ◌∷◌, ◌++◌, map, length, get_or, take, ap, ap₂, sym, ◌∙◌, arith}
use Rattle.std.proofs.lemmas.List.{ext_get_or, map_more}
use Rattle.mt_terms.specs.Lists.{below}
use Rattle.mt_terms.proofs.BelowFacts.{length-map_below, map_below_at, map-below_more}

-- a column by number with one row more
pub one_more : {X : Type 0} (f : ℕ → X) (n : ℕ) (xs ys : List X) (x : X) → xs ≡ map f (below n) → x ≡ f n → ys ≡ xs ++ x ∷ [] → ys ≡ map f (below (n + 1))
one_more f n xs ys x is here pushed = pushed ∙ ap₂ (λ zs z. zs ++ z ∷ []) is here ∙ sym (map-below_more f n)

-- a column by a list with one row more
pub one_more_of : {X Y : Type 0} (f : X → Y) (ks : List X) (i : ℕ) (k : X) (xs ys : List Y) (x : Y) → i < length ks → k ≡ get_or ks i k
    → xs ≡ map f (take i ks) → x ≡ f k → ys ≡ xs ++ x ∷ [] → ys ≡ map f (take (i + 1) ks)
one_more_of f ks i k xs ys x l at is here pushed = pushed ∙ ap₂ (λ zs z. zs ++ z ∷ []) is (here ∙ ap f at) ∙ sym (map_more f ks i k l)

-- a whole list, by number
pub by_number : {X : Type 0} (d : X) (xs : List X) → map (λ k. get_or xs k d) (below (length xs)) ≡ xs
by_number d xs =
    let long = length-map_below (λ k. get_or xs k d) (length xs) in
    ext_get_or d (map (λ k. get_or xs k d) (below (length xs))) xs long
    (λ k l. let here : k < length xs = omega (arith, long) in map_below_at (λ k. get_or xs k d) (length xs) k d here)

-- the same of as many rows as there are
pub rows_are : {X : Type 0} (d : X) (xs rows : List X) (n : ℕ) → rows ≡ map (λ k. get_or xs k d) (below n) → n ≡ length xs → rows ≡ xs
rows_are d xs rows n is many = is ∙ ap (λ j. map (λ k. get_or xs k d) (below j)) many ∙ by_number d xs
