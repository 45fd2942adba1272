use Rattle.std.proofs.Common.{[], ◌∷◌, refl}
use Rattle.mt_terms.specs.declared.events.Event.TheVariants.{Propose}
use Rattle.mt_terms.specs.Examples.Markets.{crossed, one_post}
use Rattle.mt_applicant_laws.specs.Changes.{with_program}
use Rattle.mt_applicant_laws.proofs.ByEvents.{best_by_events}
use Rattle.mt_applicant_laws.proofs.examples.lie_of_a_program.Goals as goal

pub returns : goal.returns
returns c = record {
  honest = best_by_events crossed (Propose 0 ∷ Propose 1 ∷ []) refl refl;
  lie = best_by_events (with_program crossed 0 (one_post (1 ∷ []))) (Propose 0 ∷ Propose 1 ∷ Propose 1 ∷ []) refl refl;
  gains = refl;
}
