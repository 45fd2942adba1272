-- What the rounds give if some couples are set aside.
use Rattle.std.specs.Prelude.{◌≡◌, ℕ, List, Some}
use Rattle.mt_terms.specs.Market.{Market}
use Rattle.mt_terms.specs.Matching.{Places}
use Rattle.mt_terms.specs.Rounds.{stage}
use Rattle.mt_order_laws.specs.Aside.{market_of_others}

-- the rounds of the couples that are not set aside end within the budget in these places
pub record OthersEndIn (m : Market) (best : Places) (budget : ℕ) (aside : List ℕ) (places : Places) : Type 0 where
  pub rounds : ℕ
  pub ends : stage (market_of_others aside m) best budget ≡ Some (places, rounds)
