-- What the answer is in the ways in which couples may enter, in words.
use Rattle.std.specs.Prelude.{◌≡◌, ◌≢◌, ◌↔◌, ℕ, ◌<◌, ◌≤◌, false, true, List, [], ◌∷◌, ◌++◌, slice_index, None, Some, IsTrue}
use Rattle.mt_terms.specs.Best.{IsBest}
use Rattle.mt_terms.specs.Market.{Market, Registered}
use Rattle.mt_terms.specs.Matching.{Places}
use Rattle.mt_terms.specs.Registration.Accepted.{IsRegistration}
use Rattle.mt_terms.specs.Rounds.{stage}
use Rattle.mt_terms.specs.Stability.{stable}
use Rattle.mt_terms.specs.Text.{published}
use Rattle.mt_terms.specs.declared.codes.TheConstants.{BUDGET_SPENT}
use Rattle.mt_order_laws.specs.Aside.{aside_in_turn, entering_at_end, market_of_others}
use Rattle.mt_order_laws.specs.Orders.{first_order, in_order}
use Rattle.mt_order_laws.specs.Reordered.{others, set_aside, IsOrderOfSome}
use Rattle.mt_orders.specs.Fewest.{aside_in_order}
use Rattle.mt_report.specs.Aside.{published_aside}
use Rattle.mt_report.specs.declared.ended.TheConstants.{SET_ASIDE}
use Rattle.mt_answer.specs.Answer.{IsAnswerOfMarket}
use Rattle.mt_answer.specs.Ways.{IsAnswerInWays}
use Rattle.mt_answer.specs.declared.ways.Ways.{Ways}

-- with one order, and no couple set aside, the answer is the usual one
abbrev pub OneWayIsUsual : Type 0
OneWayIsUsual =
    (r : Registered) (budget code : ℕ) (text : List ℕ)
    → IsAnswerInWays r budget (record { orders = 1; set_aside = false }) code text ↔ IsAnswerOfMarket r budget code text

-- The order that is used ends, and none of those before it does.
abbrev pub FirstOrderInWords : Type 0
FirstOrderInWords =
    (m : Market) (best : Places) (budget orders k : ℕ)
    → (first_order m best budget orders ≡ Some k)
    ↔ ((1 ≤ k) × (k ≤ orders) × (stage (in_order k m) best budget ≢ None)
    × ((j : ℕ) → 1 ≤ j → j < k → stage (in_order j m) best budget ≡ None))

-- No order is used exactly if none of them ends.
abbrev pub NoOrderInWords : Type 0
NoOrderInWords =
    (m : Market) (best : Places) (budget orders : ℕ)
    → (first_order m best budget orders ≡ None) ↔ ((k : ℕ) → 1 ≤ k → k ≤ orders → stage (in_order k m) best budget ≡ None)

-- The budget is spent exactly if no order ends within it and no couple may be set aside.
abbrev pub SpentInWays : Type 0
SpentInWays =
    (r : Registered) (budget : ℕ) (ways : Ways) (code : ℕ) (text : List ℕ) (best : Places)
    → IsAnswerInWays r budget ways code text → IsBest r.market best
    → (code ≡ BUDGET_SPENT)
    ↔ ((ways.set_aside ≡ false) × ((k : ℕ) → 1 ≤ k → k ≤ ways.orders → stage (in_order k r.market) best budget ≡ None))

-- Each couple that is set aside in turn is the one that is entering at the end, once those before it are set aside. In
-- another order it is so of the market with its couples in that order.
abbrev pub AsideInWords : Type 0
AsideInWords =
    (m : Market) (best : Places) (budget c : ℕ) (before after : List ℕ) → aside_in_turn m best budget ≡ before ++ c ∷ after
    → (k : ℕ) × (entering_at_end (market_of_others before m) best budget ≡ Some k) × (c ≡ slice_index (others before m) k)

-- the couples that are set aside in an order are couples of the market, each once
abbrev pub AsideAreCouples : Type 0
AsideAreCouples = (m : Market) (best : Places) (budget number : ℕ) → IsOrderOfSome m (aside_in_order number m best budget)

-- the text of a match that is stable in the market of a file, and the best one if there is no couple
pub record IsStableIn (r : Registered) (text : List ℕ) : Type 0 where
  pub places : Places
  pub proposals : List ℕ
  pub is_text : text ≡ published r.market r.names places proposals
  pub is_stable : IsTrue (stable r.market places)
  pub best : r.market.couples ≡ [] → IsBest r.market places

-- the text of a match with some couples set aside, which is stable in the market in which they want nothing
pub record IsStableAside (r : Registered) (text : List ℕ) : Type 0 where
  pub aside : List ℕ
  pub some : aside ≢ []
  pub are_couples : IsOrderOfSome r.market aside
  pub places : Places
  pub proposals : List ℕ
  pub is_text : text ≡ published_aside r.market r.names places proposals aside
  pub is_stable : IsTrue (stable (set_aside aside r.market) places)

-- What is published is stable. If couples are set aside, it is stable in the market in which they want nothing.
abbrev pub PublishedInWaysIsStable : Type 0
PublishedInWaysIsStable =
    (r : Registered) (budget : ℕ) (ways : Ways) (code : ℕ) (text : List ℕ) → IsRegistration r → 1 ≤ ways.orders → IsAnswerInWays r budget ways code text
    → (code ≡ 0 → IsStableIn r text) × (code ≡ SET_ASIDE → (ways.set_aside ≡ true) × IsStableAside r text)

-- a market has one answer
abbrev pub OneAnswerInWays : Type 0
OneAnswerInWays =
    (r : Registered) (budget : ℕ) (ways : Ways) (c d : ℕ) (text other : List ℕ)
    → IsAnswerInWays r budget ways c text → IsAnswerInWays r budget ways d other → (c ≡ d) × (text ≡ other)
