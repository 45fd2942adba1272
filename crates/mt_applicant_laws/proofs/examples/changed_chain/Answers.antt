use Rattle.std.proofs.Common.{[], ◌∷◌, refl}
use Rattle.mt_terms.specs.declared.events.Event.TheVariants.{Propose}
use Rattle.mt_terms.specs.Examples.Markets.{chain}
use Rattle.mt_applicant_laws.specs.Changes.{with_list, with_quota}
use Rattle.mt_applicant_laws.proofs.ByEvents.{best_by_events}
use Rattle.mt_applicant_laws.proofs.examples.changed_chain.Goals as goal

pub returns : goal.returns
returns c = record {
  one_post_more = best_by_events (with_quota chain 0 2) (Propose 0 ∷ Propose 1 ∷ Propose 2 ∷ []) refl refl;
  one_less = best_by_events (with_list chain 2 []) (Propose 0 ∷ Propose 1 ∷ []) refl refl;
  list_added = refl;
  then_hurt = refl;
}
