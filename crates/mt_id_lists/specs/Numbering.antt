-- Ids, and the new numbers of those that have one.
use Rattle.std.specs.Prelude.{ℕ, List, filter_map, slice_index_or, Option, None}
use Rattle.mt_terms.specs.Registration.Ids.{Bytes, number_of}

-- ids, and the new number of each, if it has one
pub record Numbering (X : Type 0) : Type 0 where
  pub ids : List Bytes
  pub numbers : List (Option X)

-- the new number of an id, if it has one
abbrev pub number_by : {X : Type 0} → Numbering X → Bytes → Option X
number_by n id = slice_index_or n.numbers (number_of n.ids id) None

-- the new numbers of a list's ids, of those that have one
abbrev pub numbers_by : {X : Type 0} → Numbering X → List Bytes → List X
numbers_by n list = filter_map (number_by n) list
