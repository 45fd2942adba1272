use Rattle.std.proofs.Common.{[], ◌∷◌, refl}
use Rattle.mt_terms.specs.declared.events.Event.TheVariants.{Propose}
use Rattle.mt_terms.specs.Examples.Markets.{chain}
use Rattle.mt_terms.specs.Examples.Events.{by_wishes}
use Rattle.mt_applicant_laws.specs.Changes.{with_list}
use Rattle.mt_applicant_laws.proofs.ByEvents.{best_by_events}
use Rattle.mt_applicant_laws.proofs.examples.lie_of_two.Goals as goal

pub returns : goal.returns
returns c = record {
  honest = best_by_events chain by_wishes refl refl;
  lie = best_by_events (with_list (with_list chain 0 (0 ∷ [])) 2 []) (Propose 0 ∷ Propose 1 ∷ []) refl refl;
  first_gains = refl;
}
