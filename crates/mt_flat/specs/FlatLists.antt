-- Lists held one after another, each known by where it ends.
use Rattle.std.specs.Prelude.{ℕ, zero, suc, ◌≤◌, ◌≡◌, List, [], ◌∷◌, ◌++◌, slice_range, slice_index}

-- the pieces of a list between these ends, the first from a place on
abbrev pub pieces : {X : Type 0} → ℕ → List ℕ → List X → List (List X)
pieces from [] xs = []
pieces from (end ∷ ends) xs = slice_range xs from end ∷ pieces end ends xs

-- where the list of a number begins
abbrev pub start_of : ℕ → List ℕ → ℕ → ℕ
start_of from ends zero = from
start_of from ends (suc k) = slice_index ends k

-- the ends go up from a place to the length
abbrev pub AreEnds : ℕ → List ℕ → ℕ → Type 0
AreEnds from [] size = from ≡ size
AreEnds from (end ∷ ends) size = (from ≤ end) × AreEnds end ends size

-- the lists with one element more at the end of the last one
abbrev pub with_last : {X : Type 0} → List (List X) → X → List (List X)
with_last [] x = []
with_last (xs ∷ []) x = (xs ++ x ∷ []) ∷ []
with_last (xs ∷ ys ∷ rest) x = xs ∷ with_last (ys ∷ rest) x
