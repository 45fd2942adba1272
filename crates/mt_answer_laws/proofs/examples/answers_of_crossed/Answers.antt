use Rattle.std.proofs.Common.{ℕ, List, [], ◌∷◌, Some, refl}
use Rattle.std.proofs.lemmas.Bool.{true≢false}
use Rattle.mt_lists.proofs.OnLiterals.{records_on_literals}
use Rattle.mt_terms.specs.Best.{IsBest}
use Rattle.mt_terms.specs.Examples.Markets.{crossed}
use Rattle.mt_terms.specs.Examples.RegistrationText.{file_1}
use Rattle.mt_match_file.specs.declared.submitted_match.Count.TheVariants as count
use Rattle.mt_run_laws.specs.Answer.{IsAnswer}
use Rattle.mt_run_laws.specs.Examples.{crossed_file}
use Rattle.mt_answer_laws.specs.Examples.{crossed_bytes, programs_text}
use Rattle.mt_answer_laws.specs.TwoFiles.{Publishes}
use Rattle.mt_answer_laws.proofs.FileLawFacts.{accepted}
use Rattle.mt_answer_laws.proofs.examples.answers_of_crossed.Goals as goal

-- were the other match published, it would be the best one
would_be_best : (budget : ℕ) → IsAnswer crossed_bytes budget 0 programs_text → IsBest crossed (Some 1 ∷ Some 0 ∷ [])
unfolding records_on_literals
would_be_best budget h =
    let publishes : Publishes crossed_bytes crossed_file (Some 1 ∷ Some 0 ∷ []) =
    record {
      budget = budget;
      text = programs_text;
      is_answer = h;
      of_bytes = refl;
      counts =
          record { row = 4; count = count.Program 0 1 1 } ∷ record { row = 5; count = count.Program 1 1 1 }
          ∷ record { row = 6; count = count.Totals 2 0 2 0 } ∷ [];
      of_text = refl;
    } in
    let rows : List (List (List ℕ)) = file_1 ("program,P1,1,a2,a1" ∷ "program,P2,1,a1,a2" ∷ "applicant,a1,P1,P2" ∷ "applicant,a2,P2,P1" ∷ []) in
    (accepted crossed_bytes crossed_file (Some 1 ∷ Some 0 ∷ []) rows refl publishes).is_best refl

pub returns : goal.returns
unfolding records_on_literals
returns c = record {
  published = refl;
  other_stable = refl;
  never_published = λ budget h. true≢false ((would_be_best budget h).none_better 0 0 refl (Some 0 ∷ Some 1 ∷ []) refl);
  other_count = refl;
}
