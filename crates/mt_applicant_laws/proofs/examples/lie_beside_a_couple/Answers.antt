use Rattle.std.proofs.Common.{[], ◌∷◌, refl}
use Rattle.mt_terms.specs.declared.events.Event.TheVariants.{Propose}
use Rattle.mt_applicant_laws.specs.Changes.{with_list}
use Rattle.mt_applicant_laws.specs.Examples.{seat_left_open}
use Rattle.mt_applicant_laws.proofs.ByEvents.{best_by_events}
use Rattle.mt_applicant_laws.proofs.examples.lie_beside_a_couple.Goals as goal

pub returns : goal.returns
returns c = record {
  honest = best_by_events seat_left_open (Propose 0 ∷ []) refl refl;
  honest_stage = refl;
  lie = best_by_events (with_list seat_left_open 0 (1 ∷ [])) (Propose 0 ∷ []) refl refl;
  lie_stage = refl;
  gains = refl;
}
