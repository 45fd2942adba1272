-- What is in a set of ranks.
use Rattle.std.specs.Prelude.{◌≡◌, ℕ, ◌<◌, ◌≤◌, Bool, true, false, List, slice_index_or}
use Rattle.mt_terms.specs.Lists.{Set}

-- whether a rank is in a set that is kept as a flag for each rank, from 0 on
abbrev pub is_in : List Bool → Set
is_in told r = slice_index_or told r false

-- a rank of a set, the first that isn't below a number
pub record IsFirstFrom (ranks : Set) (number r : ℕ) : Type 0 where
  pub not_below : number ≤ r
  pub there : ranks r ≡ true
  pub first : (q : ℕ) → number ≤ q → q < r → ranks q ≡ false
