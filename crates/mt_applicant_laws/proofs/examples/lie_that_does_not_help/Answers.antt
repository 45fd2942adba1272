use Rattle.std.proofs.Common.{[], ◌∷◌, refl}
use Rattle.mt_terms.specs.declared.events.Event.TheVariants.{Propose, Notice}
use Rattle.mt_terms.specs.Examples.Markets.{chain}
use Rattle.mt_terms.specs.Examples.Events.{by_wishes}
use Rattle.mt_applicant_laws.specs.Changes.{with_list}
use Rattle.mt_applicant_laws.proofs.ByEvents.{best_by_events}
use Rattle.mt_applicant_laws.proofs.examples.lie_that_does_not_help.Goals as goal

pub returns : goal.returns
returns c = record {
  honest = best_by_events chain by_wishes refl refl;
  lie = best_by_events (with_list chain 0 (0 ∷ [])) (Propose 0 ∷ Propose 1 ∷ Propose 2 ∷ Notice 0 ∷ []) refl refl;
}
