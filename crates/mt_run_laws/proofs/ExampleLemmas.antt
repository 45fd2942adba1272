-- The match that is best for the programs is not what a run may write.
use Rattle.std.proofs.Common.{◌≡◌, ℕ, zero, suc, ◌==◌, List, [], ◌∷◌, Option, Some, Result, refl, ◌∙◌, ap, subst}
use Rattle.std.specs.Prelude.{IsTrue, slice_index_or, MatchResult}
use Rattle.std.proofs.lemmas.Bool.{true≢false}
use Rattle.mt_terms.specs.Best.{IsBest, IsExcluded, better_programs}
use Rattle.mt_terms.specs.Examples.Markets.{crossed}
use Rattle.mt_terms.specs.Lists.{has}
use Rattle.mt_terms.specs.Market.{Registered}
use Rattle.mt_terms.specs.Matching.{Places}
use Rattle.mt_terms.specs.Registration.Faults.{Fault}
use Rattle.mt_terms.specs.Text.{published}
use Rattle.mt_stability_laws.proofs.ExclusionLemmas.{best_is_unique_lem}
use Rattle.mt_answer.specs.Answer.{IsAnswerOfStage, IsAnswerOfMarket, all_proposals}
use Rattle.mt_run_laws.specs.Answer.{IsAnswerOfFault}
use Rattle.mt_run_laws.specs.Examples.{crossed_file, ProgramOptimalIsNoAnswer}
use Rattle.mt_run_laws.proofs.HeadlineLemmas.{stage_of_singles}

-- each applicant has its first wish, so nothing is better
none_better : (a p : ℕ) → IsTrue (has (better_programs crossed (Some 0 ∷ Some 1 ∷ []) a) p) → IsExcluded crossed a p
none_better zero p h = cc
none_better (suc zero) p h = cc
none_better (suc (suc a)) p h = cc

first_wishes : IsBest crossed (Some 0 ∷ Some 1 ∷ [])
first_wishes = record { is_stable = refl; none_better = none_better }

-- the texts of the two matches differ at the first applicant's place
texts_differ : (received other : List ℕ)
    → published crossed crossed_file.names (Some 1 ∷ Some 0 ∷ []) received ≡ published crossed crossed_file.names (Some 0 ∷ Some 1 ∷ []) other → ⊥
texts_differ received other e = true≢false (ap (λ (text : List ℕ). slice_index_or text 32 0 == 50) e)

of_market : (budget : ℕ) (received : List ℕ)
    → IsAnswerOfMarket crossed_file budget 0 (published crossed crossed_file.names (Some 1 ∷ Some 0 ∷ []) received) → ⊥
of_market budget received h =
    let text = published crossed crossed_file.names (Some 1 ∷ Some 0 ∷ []) received in
    let ends = subst (λ (s : Option (Places × ℕ)). IsAnswerOfStage crossed_file h.best s 0 text) (stage_of_singles crossed h.best budget refl) h.ends in
    let same : h.best ≡ (Some 0 ∷ Some 1 ∷ []) = best_is_unique_lem crossed h.best (Some 0 ∷ Some 1 ∷ []) h.is_best first_wishes in
    texts_differ received (all_proposals crossed_file h.best)
    (ends.1 ∙ ap (λ (places : Places). published crossed crossed_file.names places (all_proposals crossed_file h.best)) same)

pub program_optimal_is_no_answer_lem : ProgramOptimalIsNoAnswer
program_optimal_is_no_answer_lem bytes received budget is_market h =
    let text : List ℕ = published crossed crossed_file.names (Some 1 ∷ Some 0 ∷ []) received in
    of_market budget received
    (subst (λ (m : Result Registered Fault). MatchResult m (λ r. IsAnswerOfMarket r budget 0 text) (λ f. IsAnswerOfFault f 0 text)) is_market h)
