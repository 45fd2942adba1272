use Rattle.std.proofs.Common.{[], ◌∷◌, Some, None, refl}
use Rattle.std.specs.Prelude.{codes}
use Rattle.mt_lists.proofs.OnLiterals.{records_on_literals}
use Rattle.mt_terms.specs.declared.events.Event.TheVariants.{Propose, Notice}
use Rattle.mt_terms.specs.Examples.Events.{by_wishes}
use Rattle.mt_terms.specs.Examples.Markets.{chain}
use Rattle.mt_terms.specs.Examples.RegistrationText.{file, file_1}
use Rattle.mt_applicant_laws.specs.Changes.{with_list, with_quota}
use Rattle.mt_applicant_laws.proofs.ByEvents.{best_by_events}
use Rattle.mt_answer_laws.specs.Examples.{chain_bytes, chain_names, lie_bytes, one_less_bytes, one_post_more_bytes}
use Rattle.mt_answer_laws.proofs.PublishedAlone.{publishes}
use Rattle.mt_answer_laws.proofs.examples.changes_of_chain.Goals as goal

pub returns : goal.returns
unfolding records_on_literals
returns c = record {
  lies = record {
    before = file_1 ("program,P1,1,a2,a3,a1" ∷ "program,P2,1,a1,a2" ∷ []);
    after = file ("applicant,a2,P2,P1" ∷ "applicant,a3,P1" ∷ []);
    one = refl;
    two = refl;
  };
  leaves = record {
    before = file_1 ("program,P1,1,a2,a3,a1" ∷ "program,P2,1,a1,a2" ∷ "applicant,a1,P1,P2" ∷ "applicant,a2,P2,P1" ∷ []);
    after = [];
    one = refl;
    two = refl;
  };
  grows = record {
    before = file_1 [];
    after = file ("program,P2,1,a1,a2" ∷ "applicant,a1,P1,P2" ∷ "applicant,a2,P2,P1" ∷ "applicant,a3,P1" ∷ []);
    list = codes "a2" ∷ codes "a3" ∷ codes "a1" ∷ [];
    quota_field = codes "1";
    other_field = codes "2";
    quota_is = refl;
    other_is = refl;
    one = refl;
    two = refl;
  };
  honest = publishes chain_bytes (chain_names chain) (Some 1 ∷ Some 0 ∷ None ∷ []) refl (best_by_events chain by_wishes refl refl) refl;
  lie = publishes lie_bytes (chain_names (with_list chain 0 (0 ∷ []))) (None ∷ Some 1 ∷ Some 0 ∷ []) refl
      (best_by_events (with_list chain 0 (0 ∷ [])) (Propose 0 ∷ Propose 1 ∷ Propose 2 ∷ Notice 0 ∷ []) refl refl) refl;
  one_less = publishes one_less_bytes (chain_names (with_list chain 2 [])) (Some 0 ∷ Some 1 ∷ None ∷ []) refl
      (best_by_events (with_list chain 2 []) (Propose 0 ∷ Propose 1 ∷ []) refl refl) refl;
  one_post_more = publishes one_post_more_bytes (chain_names (with_quota chain 0 2)) (Some 0 ∷ Some 1 ∷ Some 0 ∷ []) refl
      (best_by_events (with_quota chain 0 2) (Propose 0 ∷ Propose 1 ∷ Propose 2 ∷ []) refl refl) refl;
}
