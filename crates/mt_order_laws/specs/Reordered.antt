-- A market with its couples in another order, and a market in which some couples want nothing. (This project's own
-- rule.)
use Rattle.std.specs.Prelude.{◌≡◌, ℕ, ◌<◌, not, ◌&&◌, nat_lt, List, [], map, filter, length, IsTrue, if◌then◌else◌}
use Rattle.mt_terms.specs.Lists.{has, below, is_distinct}
use Rattle.mt_terms.specs.Market.{Market, Partners, Names, Registered, couple_of}
use Rattle.mt_terms.specs.Text.{name_of}

-- The market in which the couples of a list enter, in its order. The members of a couple that is not on the list are
-- applicants that want nothing. Places are as before, since applicants and programs keep their numbers.
abbrev pub reordered : List ℕ → Market → Market
reordered order m = record m { couples = map (couple_of m) order }

-- the ids that go with it: those of the couples of the list, in its order
abbrev pub reordered_names : List ℕ → Names → Names
reordered_names order names = record names { couples = map (name_of names.couples) order }

-- the same market with its ids
abbrev pub reordered_registered : List ℕ → Registered → Registered
reordered_registered order r = record { market = reordered order r.market; names = reordered_names order r.names }

-- a couple, without its pairs if it is set aside: then it wants nothing
abbrev pub unless_aside : List ℕ → Market → ℕ → Partners
unless_aside aside m c = if has aside c then record (couple_of m c) { pairs = [] } else couple_of m c

-- The market in which the couples of a list are set aside: they want nothing, so their members stay unplaced.
abbrev pub set_aside : List ℕ → Market → Market
set_aside aside m = record m { couples = map (unless_aside aside m) (below (length m.couples)) }

-- the same with its ids
abbrev pub set_aside_registered : List ℕ → Registered → Registered
set_aside_registered aside r = record { market = set_aside aside r.market; names = r.names }

-- the couples that are not set aside, in the order of registration
abbrev pub others : List ℕ → Market → List ℕ
others aside m = filter (λ c. not (has aside c)) (below (length m.couples))

-- An order of some couples of a market: each is there at most once.
pub record IsOrderOfSome (m : Market) (order : List ℕ) : Type 0 where
  pub distinct : IsTrue (is_distinct order)
  pub within : (c : ℕ) → IsTrue (has order c) → c < length m.couples

-- An order of the couples of a market that are not set aside: each is there once, and no other number is.
pub record IsOrderWithout (m : Market) (aside order : List ℕ) : Type 0 where
  pub distinct : IsTrue (is_distinct order)
  pub of_others : (c : ℕ) → has order c ≡ (nat_lt c (length m.couples) && not (has aside c))
