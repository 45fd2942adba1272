-- What a run writes for a market whose couples may enter in several orders, and may be set aside. This project's own rule.
use Rattle.std.specs.Prelude.{◌≡◌, ◌≤◌, ℕ, Bool, true, false, List, [], Option, None, Some, IsFalse, IsTrue, ⊤}
use Rattle.mt_terms.specs.Best.{IsBest}
use Rattle.mt_terms.specs.Market.{Registered}
use Rattle.mt_terms.specs.Matching.{Places}
use Rattle.mt_terms.specs.Rounds.{stage}
use Rattle.mt_terms.specs.Text.{name_of, refused}
use Rattle.mt_terms.specs.declared.codes.TheConstants.{BUDGET_SPENT}
use Rattle.mt_order_laws.specs.Aside.{entering_at_end}
use Rattle.mt_order_laws.specs.Orders.{first_order, in_order}
use Rattle.mt_orders.specs.Fewest.{aside_in_order, fewest_order, others_in_order}
use Rattle.mt_report.specs.Aside.{published_aside}
use Rattle.mt_report.specs.declared.ended.TheConstants.{SET_ASIDE}
use Rattle.mt_answer.specs.Answer.{IsAnswerOfStage, IsRefusedAlone, all_proposals}
use Rattle.mt_answer.specs.declared.ways.Entering.{Entering}
use Rattle.mt_answer.specs.declared.ways.Unanswered.{Unanswered}
use Rattle.mt_answer.specs.declared.ways.Unanswered.TheVariants.{BudgetSpent, Memory}
use Rattle.mt_answer.specs.declared.ways.Ways.{Ways}

-- The answer if these couples are set aside: the text of the match in which the rounds of the others end.
abbrev pub IsAnswerAside : Registered → Places → List ℕ → Option (Places × ℕ) → ℕ → List ℕ → Type 0
IsAnswerAside r best aside None code text = ⊥
IsAnswerAside r best aside (Some s) code text =
    (code ≡ SET_ASIDE) × (text ≡ published_aside r.market r.names s.0 (all_proposals r best) aside)

-- The answer if none of the orders from 1 to `orders` ends. If couples may be set aside, they are, one after another,
-- until the others' rounds end, in the first of these orders in which the fewest are. Else the budget is spent.
abbrev pub IsAnswerOfNone : Registered → Places → ℕ → ℕ → Bool → ℕ → List ℕ → Type 0
IsAnswerOfNone r best budget orders false code text = IsRefusedAlone BUDGET_SPENT code text
IsAnswerOfNone r best budget orders true code text =
    let k : ℕ = fewest_order r.market best budget orders in
    IsAnswerAside r best (aside_in_order k r.market best budget) (stage (others_in_order k r.market best budget) best budget) code text

-- the answer by the order that is used, if there is one: that of the couples' stage in this order
abbrev pub IsAnswerOfOrder : Registered → Places → ℕ → Ways → Option ℕ → ℕ → List ℕ → Type 0
IsAnswerOfOrder r best budget ways None code text = IsAnswerOfNone r best budget ways.orders ways.set_aside code text
IsAnswerOfOrder r best budget ways (Some k) code text =
    IsAnswerOfStage r best (stage (in_order k r.market) best budget) code text

-- The answer to a market, a budget, and the ways in which couples may enter. The couples enter after the best match of
-- the singles, in the first order that ends within the budget.
pub record IsAnswerInWays (r : Registered) (budget : ℕ) (ways : Ways) (code : ℕ) (text : List ℕ) : Type 0 where
  pub best : Places
  pub is_best : IsBest r.market best
  pub ends : IsAnswerOfOrder r best budget ways (first_order r.market best budget ways.orders) code text

-- The couple with this id was entering, in the order of registration, when the budget was spent. All rounds of the
-- budget were made, unless a state came back. Then no budget is enough for this order.
pub record IsEntering (r : Registered) (budget : ℕ) (e : Entering) : Type 0 where
  pub best : Places
  pub is_best : IsBest r.market best
  pub couple : ℕ
  pub entering : entering_at_end r.market best budget ≡ Some couple
  pub id : e.id ≡ name_of r.names.couples couple
  pub within : e.rounds ≤ budget
  pub all_made : IsFalse e.comes_back → e.rounds ≡ budget
  pub endless : IsTrue e.comes_back → (b : ℕ) → stage r.market best b ≡ None

-- Why there is no match: no order ends within the budget, and this couple was entering. Nothing is said of want of memory.
abbrev pub IsUnanswered : Registered → ℕ → Ways → Unanswered → Type 0
IsUnanswered r budget ways (BudgetSpent e) = IsAnswerInWays r budget ways BUDGET_SPENT (refused BUDGET_SPENT 0 []) × IsEntering r budget e
IsUnanswered r budget ways Memory = ⊤
