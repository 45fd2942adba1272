-- Bytes and a budget have one answer: by what is in the bytes, and then by the one best match and the one end of the
-- couples' stage.
use Rattle.std.proofs.Common.{◌≡◌, ℕ, List, Result, Ok, Err, sym, ◌∙◌, subst}
use Rattle.std.specs.Prelude.{MatchResult}
use Rattle.mt_terms.specs.Market.{Registered}
use Rattle.mt_terms.specs.Matching.{Places}
use Rattle.mt_terms.specs.Registration.Faults.{Fault}
use Rattle.mt_terms.specs.Rounds.{stage}
use Rattle.mt_answer.proofs.WayFacts.{SameAnswer, stage_once}
use Rattle.mt_stability_laws.proofs.ExclusionLemmas.{best_is_unique_lem}
use Rattle.mt_answer.specs.Answer.{IsAnswerOfStage, IsAnswerOfMarket}
use Rattle.mt_input.specs.Files.{market_in}
use Rattle.mt_run_laws.specs.Answer.{IsAnswerOfFault}
use Rattle.mt_run_laws.specs.Laws.{OneAnswer}

market_once : (r : Registered) (budget c d : ℕ) (text other : List ℕ) → IsAnswerOfMarket r budget c text → IsAnswerOfMarket r budget d other → SameAnswer c d text other
market_once r budget c d text other h k =
    let same : k.best ≡ h.best = best_is_unique_lem r.market k.best h.best k.is_best h.is_best in
    let ends = subst (λ (best : Places). IsAnswerOfStage r best (stage r.market best budget) d other) same k.ends in
    stage_once r h.best (stage r.market h.best budget) c d text other h.ends ends

bytes_once : (m : Result Registered Fault) (budget c d : ℕ) (text other : List ℕ)
    → MatchResult m (λ r. IsAnswerOfMarket r budget c text) (λ f. IsAnswerOfFault f c text)
    → MatchResult m (λ r. IsAnswerOfMarket r budget d other) (λ f. IsAnswerOfFault f d other) → SameAnswer c d text other
bytes_once (Ok r) budget c d text other h k = market_once r budget c d text other h k
bytes_once (Err f) budget c d text other h k = (h.same_code ∙ sym k.same_code, h.line ∙ sym k.line)

pub one_answer_lem : OneAnswer
one_answer_lem bytes budget c d text other h k = bytes_once (market_in bytes) budget c d text other h k
