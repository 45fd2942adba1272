-- Marks of the numbers on a list.
use Rattle.std.specs.Prelude.{◌≡◌, ℕ, Bool, false, List, slice_index_or}
use Rattle.mt_terms.specs.Lists.{has}

-- marks say of each number whether a list has it
abbrev pub AreMarked : List ℕ → List Bool → Type 0
AreMarked numbers marks = (n : ℕ) → slice_index_or marks n false ≡ has numbers n
