-- States of the rounds that come back. (This project's own rule)
use Rattle.std.specs.Prelude.{◌≡◌, ◌≢◌, ℕ, zero, suc, ◌<◌, [], ◌∷◌, length, Some, None}
use Rattle.mt_terms.specs.Lists.{below}
use Rattle.mt_terms.specs.Market.{Market}
use Rattle.mt_terms.specs.Matching.{Places}
use Rattle.mt_terms.specs.Rounds.{Work, round, after_rounds, after_entries, stage, state}
use Rattle.mt_terms.specs.Examples.Markets.{partner_withdraws, unstable}
use Rattle.mt_terms.specs.declared.numbers.Agent.TheVariants.{Single, Couple}
use Rattle.mt_budget_laws.specs.Budget.{single_back}

-- the state after some rounds from another
abbrev pub state_after : Market → ℕ → ℕ → Work → Work
state_after m k zero w = w
state_after m k (suc n) w = state_after m k n (round m k w)

-- A state comes back: somebody waits, and one or more rounds lead to the same match and the same work list.
pub record ComesBack (m : Market) (k : ℕ) (w : Work) : Type 0 where
  pub waits : w.waiting ≢ []
  pub rounds : ℕ
  pub some : 0 < rounds
  pub back : state_after m k rounds w ≡ w

-- If a state that rounds lead to comes back, the rounds end within no budget.
abbrev pub ReturningNeverEnds : Type 0
ReturningNeverEnds =
    (m : Market) (k : ℕ) (w : Work) (before : ℕ) → ComesBack m k (state_after m k before w)
    → (b : ℕ) → after_rounds m k b w.places w.waiting ≡ None

-- If the couples before one enter within some budget, and a state of its own rounds comes back, no budget is enough for
-- the stage.
abbrev pub ReturningStageNeverEnds : Type 0
ReturningStageNeverEnds =
    (m : Market) (places : Places) (k budget : ℕ) (r : Places × ℕ) → k < length m.couples
    → after_entries m (below k) budget places ≡ Some r
    → (before : ℕ) → ComesBack m k (state_after m k before (state r.0 (Couple k ∷ [])))
    → (b : ℕ) → stage m places b ≡ None

-- if the partner withdraws: the match once the second couple has moved
abbrev pub second_moved : Places
second_moved = None ∷ None ∷ None ∷ Some 0 ∷ Some 1 ∷ []

-- In the unstable market all is as before after four rounds, and no budget is enough. If the partner withdraws, the
-- match is the same after one round, with another work list. There the rounds end.
pub record ReturningInExamples : Type 0 where
  pub back : state_after unstable 0 4 (state (Some 0 ∷ None ∷ None ∷ []) (Couple 0 ∷ [])) ≡ state (Some 0 ∷ None ∷ None ∷ []) (Couple 0 ∷ [])
  pub endless : (b : ℕ) → stage unstable (Some 0 ∷ None ∷ None ∷ []) b ≡ None
  pub same_match : state_after partner_withdraws 1 1 (state second_moved (Couple 0 ∷ Single 0 ∷ [])) ≡ state second_moved (Single 0 ∷ [])
  pub ends : after_rounds partner_withdraws 1 2 second_moved (Couple 0 ∷ Single 0 ∷ []) ≡ Some (single_back, 0)
