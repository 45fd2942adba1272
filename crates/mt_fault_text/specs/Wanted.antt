-- Sets of programs as flags.
use Rattle.std.specs.Prelude.{◌≡◌, ℕ, ◌<◌, Bool, false, ◌==◌, List, length, Option, Some, None, slice_index_or}
use Rattle.mt_terms.specs.Lists.{Set}

-- the numbers whose flag is set
abbrev pub set_of : List Bool → Set
set_of flags p = slice_index_or flags p false

-- whether a place is this program
abbrev pub is_place : Option ℕ → Set
is_place None p = false
is_place (Some program) p = program == p

-- as many flags as there are programs, which say whether each of these is in a set
pub record AreWanted (programs : ℕ) (set : Set) (flags : List Bool) : Type 0 where
  pub one_each : length flags ≡ programs
  pub said : (p : ℕ) → p < programs → set_of flags p ≡ set p
