-- The couples that are set aside in each of several orders, and the order in which the fewest are. (This project's own
-- rule.)
use Rattle.std.specs.Prelude.{◌≡◌, ℕ, zero, suc, nat_lt, List, [], ◌∷◌, Some, map, length, slice_index, if◌then◌else◌}
use Rattle.mt_terms.specs.Market.{Market}
use Rattle.mt_terms.specs.Matching.{Places}
use Rattle.mt_terms.specs.Rounds.{stage}
use Rattle.mt_order_laws.specs.Aside.{aside_in_turn, market_of_others}
use Rattle.mt_order_laws.specs.Orders.{in_order, order_of}
use Rattle.mt_orders.specs.declared.without.Aside.{Aside}

-- the market in which only the couples that are not set aside in turn enter, in the order with a number
abbrev pub others_in_order : ℕ → Market → Places → ℕ → Market
others_in_order number m best budget = market_of_others (aside_in_turn (in_order number m) best budget) (in_order number m)

-- the couples set aside in turn in the order with a number, by their numbers in the market
abbrev pub aside_in_order : ℕ → Market → Places → ℕ → List ℕ
aside_in_order number m best budget = map (slice_index (order_of number (length m.couples))) (aside_in_turn (in_order number m) best budget)

-- Of the orders from 1 to `orders`, the first in which the fewest couples are set aside. Order 1 is always one of them.
abbrev pub fewest_order : Market → Places → ℕ → ℕ → ℕ
fewest_order m best budget zero = 1
fewest_order m best budget (suc n) =
    let k : ℕ = fewest_order m best budget n in
    if nat_lt (length (aside_in_order (suc n) m best budget)) (length (aside_in_order k m best budget)) then suc n else k

-- These couples are set aside in the order with a number, and the rounds of the others end in this match.
pub record IsAsideInOrder (m : Market) (best : Places) (budget number : ℕ) (a : Aside) : Type 0 where
  pub couples : a.couples.items ≡ aside_in_order number m best budget
  pub rounds : ℕ
  pub ends : stage (others_in_order number m best budget) best budget ≡ Some (a.matched.places, rounds)

-- the second of two if fewer couples are set aside in it, or else the first
abbrev pub fewer : Aside → Aside → Aside
fewer a b = if nat_lt (length b.couples.items) (length a.couples.items) then b else a

-- the first of these in which the fewest couples are set aside
abbrev pub fewest_of : Aside → List Aside → Aside
fewest_of a [] = a
fewest_of a (x ∷ xs) = fewest_of (fewer a x) xs
