-- The lists of ids that are read.
use Rattle.std.specs.Prelude.{◌≡◌, ℕ, ◌<◌, ◌^◌, Bool, List, [], Vec, length, map, Option, Some, None}
use Rattle.std.specs.Borrow.{Bor}
use Rattle.std.specs.Global.{Global}
use Rattle.mt_lists.specs.Rows.{fields_left}
use Rattle.mt_lists.specs.declared.row.Fields.{Fields}
use Rattle.mt_terms.specs.Lists.{below}
use Rattle.mt_terms.specs.Registration.Ids.{Bytes}

-- the ids that fields are, if there are any fields
abbrev pub ids_in : Option (Bor Fields) → List Bytes
ids_in None = []
ids_in (Some fields) = fields_left fields.now

-- a list of fields as a list of ids, and whether it is kept
abbrev pub list_seen : Option (Bor Fields) × Bool → Bool × List Bytes
list_seen list = (list.1, ids_in list.0)

-- the new numbers of a count of ids: those of a vector, or their places if there is none
abbrev pub numbers_seen : {X : Type 0} → (ℕ → X) → ℕ → Option (Vec (Option X) Global) → List (Option X)
numbers_seen at count (Some numbers) = numbers.items
numbers_seen at count None = map (λ k. Some (at k)) (below count)

-- There is a number, or none, for each of a count of ids.
abbrev pub AreFor : {X : Type 0} → ℕ → Option (Vec (Option X) Global) → Type 0
AreFor count (Some numbers) = length numbers.items ≡ count
AreFor count None = count < 2 ^ 32
