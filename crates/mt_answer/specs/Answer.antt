-- What a run writes for a market.
use Rattle.std.specs.Prelude.{◌≡◌, ℕ, List, [], map, length, Option, None, Some, IsTrue}
use Rattle.mt_terms.specs.Best.{IsBest, proposals}
use Rattle.mt_terms.specs.Lists.{below}
use Rattle.mt_terms.specs.Market.{Market, Registered}
use Rattle.mt_terms.specs.Matching.{Places}
use Rattle.mt_terms.specs.Rounds.{stage}
use Rattle.mt_terms.specs.Stability.{stable}
use Rattle.mt_terms.specs.Text.{published, refused}
use Rattle.mt_terms.specs.declared.codes.TheConstants.{BUDGET_SPENT}

-- the text is the line of a refusal with this code, which no record is at
abbrev pub IsRefusedAlone : ℕ → ℕ → List ℕ → Type 0
IsRefusedAlone refusal code text = (code ≡ refusal) × (text ≡ refused refusal 0 [])

-- how many proposals each program receives on the way to the best match
abbrev pub all_proposals : Registered → Places → List ℕ
all_proposals r best = map (proposals r.market best) (below (length r.market.programs))

-- the published text of a stable match
pub record IsPublished (r : Registered) (places : Places) (received text : List ℕ) : Type 0 where
  pub is_stable : IsTrue (stable r.market places)
  pub is_text : text ≡ published r.market r.names places received

-- The answer after the couples' stage from the best match of the singles. It is the published text of the match in
-- which the stage ends, or the refusal if the budget is spent.
abbrev pub IsAnswerOfStage : Registered → Places → Option (Places × ℕ) → ℕ → List ℕ → Type 0
IsAnswerOfStage r best None code text = IsRefusedAlone BUDGET_SPENT code text
IsAnswerOfStage r best (Some s) code text = (code ≡ 0) × (text ≡ published r.market r.names s.0 (all_proposals r best))

-- the couples' stage from this match ends, within the budget, in that one
abbrev pub IsEnteredFrom : Market → Places → ℕ → Places → Type 0
IsEnteredFrom m singles budget places = (rounds : ℕ) × (stage m singles budget ≡ Some (places, rounds))

-- The answer to a market and a budget. The couples enter after the best match of the singles. The text is
-- that of the match in which this ends, with the proposals on the way to the best match. If the budget is
-- spent, it is that refusal line.
pub record IsAnswerOfMarket (r : Registered) (budget code : ℕ) (text : List ℕ) : Type 0 where
  pub best : Places
  pub is_best : IsBest r.market best
  pub ends : IsAnswerOfStage r best (stage r.market best budget) code text
