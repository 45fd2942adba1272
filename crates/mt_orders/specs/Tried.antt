-- What the rounds give in one order of the couples, in the first of several that ends, and in a try of them.
use Rattle.std.specs.Prelude.{◌≡◌, ℕ, List, [], ◌∷◌, Option, Some, None}
use Rattle.std.specs.List.{find}
use Rattle.std.specs.Option.{option_map}
use Rattle.mt_terms.specs.Best.{IsBest}
use Rattle.mt_terms.specs.Market.{Market}
use Rattle.mt_terms.specs.Matching.{Places}
use Rattle.mt_terms.specs.Rounds.{stage}
use Rattle.mt_terms.specs.declared.matching.Match.{Match}
use Rattle.mt_ranks.specs.Ranked.{ranked_of}
use Rattle.mt_order_laws.specs.Orders.{ends_in_order, first_order, in_order}
use Rattle.mt_orders.specs.declared.tried.Trial.{Trial}

-- Of the orders from 1 to `orders`, the first in which the rounds end within the budget has this number, and ends in
-- these places.
pub record EndsFirst (m : Market) (best : Places) (budget orders : ℕ) (places : Places) : Type 0 where
  pub number : ℕ
  pub rounds : ℕ
  pub first : first_order m best budget orders ≡ Some number
  pub ends : stage (in_order number m) best budget ≡ Some (places, rounds)

-- The rounds end in this match by the order with a number, if they end within the budget.
pub record IsEnd (m : Market) (best : Places) (budget number : ℕ) (end : Option Match) : Type 0 where
  pub is : option_map (λ (e : Match). e.places) end ≡ option_map (λ (r : Places × ℕ). r.0) (stage (in_order number m) best budget)

-- the same by the first of some orders in which they end
abbrev pub IsFirstEnd : Market → Places → ℕ → List ℕ → Option Match → Type 0
IsFirstEnd m best budget numbers None = find (ends_in_order m best budget) numbers ≡ None
IsFirstEnd m best budget numbers (Some e) =
    (number : ℕ) × (rounds : ℕ) × (find (ends_in_order m best budget) numbers ≡ Some number)
    × (stage (in_order number m) best budget ≡ Some (e.places, rounds))

-- the first match among some ends
abbrev pub first_some : List (Option Match) → Option Match
first_some [] = None
first_some (Some e ∷ ends) = Some e
first_some (None ∷ ends) = first_some ends

-- A try has the rank tables of its market and the best match of the singles.
pub record IsTrial (t : Trial) : Type 0 where
  pub ranks : t.ranks.now ≡ ranked_of t.roster.now.market
  pub best : IsBest t.roster.now.market t.singles.now.places
