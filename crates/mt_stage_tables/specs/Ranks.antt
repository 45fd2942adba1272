-- The ranks of a set, one after another.
use Rattle.std.specs.Prelude.{◌≡◌, ℕ, ◌<◌, Bool, List, length}
use Rattle.std.specs.List.Sorted.{IsStrictlySortedBy}
use Rattle.std.specs.Ordering.{nat_cmp}
use Rattle.mt_terms.specs.Lists.{has}
use Rattle.mt_terms.specs.Market.{Market}
use Rattle.mt_terms.specs.Matching.{Places, placed_ranks}
use Rattle.mt_bits.specs.Members.{is_in}
use Rattle.mt_bits.specs.Tables.{told_of}

-- The list rises, and has the ranks of the set and no others.
pub record HasRanks (told : List Bool) (ranks : List ℕ) : Type 0 where
  pub sorted : IsStrictlySortedBy nat_cmp ranks
  pub same : (r : ℕ) → has ranks r ≡ is_in told r

-- the same as sets
pub record HavePlaced (m : Market) (places : Places) (table : List (List Bool)) : Type 0 where
  pub one_each : length table ≡ length m.programs
  pub each : (p r : ℕ) → p < length m.programs → is_in (told_of table p) r ≡ has (placed_ranks m places p) r
