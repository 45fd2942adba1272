use Rattle.std.proofs.Common.{[], ◌∷◌, refl}
use Rattle.mt_terms.specs.declared.events.Event.TheVariants.{Propose}
use Rattle.mt_terms.specs.Examples.Markets.{crossed}
use Rattle.mt_applicant_laws.specs.Changes.{with_list}
use Rattle.mt_applicant_laws.proofs.ByEvents.{best_by_events}
use Rattle.mt_applicant_laws.proofs.examples.longer_list_of_the_first.Goals as goal

pub returns : goal.returns
returns c = record {
  first_wish_alone = best_by_events (with_list crossed 0 (0 ∷ [])) (Propose 0 ∷ Propose 1 ∷ []) refl refl;
  list_added = refl;
  both_wishes = best_by_events crossed (Propose 0 ∷ Propose 1 ∷ []) refl refl;
}
