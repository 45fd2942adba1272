-- For whom a program has a post, of the ranks that are watched there.
use Rattle.std.specs.Prelude.{◌≡◌, ℕ, Bool, ◌&&◌, ◌<◌, ◌≤◌, true, false, List, length}
use Rattle.std.specs.List.{list_any}
use Rattle.mt_terms.specs.Lists.{Set, below}
use Rattle.mt_terms.specs.Market.{program_of}
use Rattle.mt_bits.specs.Members.{IsFirstFrom}
use Rattle.mt_assignment.specs.Assigned.{has_post, Assigned}
use Rattle.mt_assignment.specs.Watched.{ranks_at}

-- the first of some ranks on a program's list that isn't below a number, and the program has a post for it
pub record IsOpenFrom (s : Assigned) (p : ℕ) (ranks : Set) (number r : ℕ) : Type 0 where
  pub first : IsFirstFrom ranks number r
  pub within : r < length (program_of s.market p).ranking
  pub has_post : has_post s p r ≡ true

-- if a rank on a program's list is one of these, the program has no post for it
abbrev pub IsClosed : Assigned → ℕ → Set → ℕ → Type 0
IsClosed s p ranks r = ranks r ≡ true → r < length (program_of s.market p).ranking → has_post s p r ≡ false

-- so it is for each of them from a number on
abbrev pub AreClosedFrom : Assigned → ℕ → Set → ℕ → Type 0
AreClosedFrom s p ranks number = (r : ℕ) → number ≤ r → IsClosed s p ranks r

-- whether a program has a post for one of the ranks that are watched there
abbrev pub has_wanted_post : Assigned → List (List Bool) → ℕ → Bool
has_wanted_post s rows p = list_any (λ r. ranks_at rows p r && has_post s p r) (below (length (program_of s.market p).ranking))
