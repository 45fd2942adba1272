-- What the rank tables of a market don't depend on, and in which order couples are set aside.
use Rattle.std.specs.Prelude.{◌≡◌, ◌↔◌, ℕ, ◌<◌, ◌≤◌, List, [], length}
use Rattle.mt_terms.specs.Market.{Market}
use Rattle.mt_terms.specs.Matching.{Places}
use Rattle.mt_terms.specs.WellFormed.{IsWellFormed}
use Rattle.mt_ranks.specs.Ranked.{ranked_of}
use Rattle.mt_order_laws.specs.Aside.{aside_in_turn, market_of_others}
use Rattle.mt_order_laws.specs.Reordered.{reordered, IsOrderWithout}
use Rattle.mt_orders.specs.Fewest.{aside_in_order, fewest_order, others_in_order}

-- The rank tables are the same in any order of all couples.
abbrev pub RanksInAnyOrder : Type 0
RanksInAnyOrder = (m : Market) (order : List ℕ) → IsWellFormed m → IsOrderWithout m [] order → ranked_of (reordered order m) ≡ ranked_of m

-- In none of some orders fewer couples are set aside than in the one that is used, and in each one before it more are.
abbrev pub FewestInWords : Type 0
FewestInWords =
    (m : Market) (best : Places) (budget orders k : ℕ) → 1 ≤ orders
    → (fewest_order m best budget orders ≡ k)
    ↔ ((1 ≤ k) × (k ≤ orders)
    × ((j : ℕ) → 1 ≤ j → j ≤ orders → length (aside_in_order k m best budget) ≤ length (aside_in_order j m best budget))
    × ((j : ℕ) → 1 ≤ j → j < k → length (aside_in_order k m best budget) < length (aside_in_order j m best budget)))

-- In the order of registration the couples that are set aside are those of the market as it is.
abbrev pub OneOrderAside : Type 0
OneOrderAside =
    (m : Market) (best : Places) (budget : ℕ)
    → (aside_in_order 1 m best budget ≡ aside_in_turn m best budget)
    × (others_in_order 1 m best budget ≡ market_of_others (aside_in_turn m best budget) m)
