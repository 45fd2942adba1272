use Rattle.std.proofs.Common.{ap, ◌∙◌}
use Rattle.std.proofs.lemmas.Result.{on_ok_weaker}
use Rattle.mt_faults.specs.Registered.{added}
use Rattle.mt_faults.specs.Seen.{parts_seen}
use Rattle.mt_faults.proofs.StandingFacts.{adds_parts}
use Rattle.mt_faults.proofs.registry.Registry.add.Goals as goal

pub returns : goal.returns
returns c =
    let rules = c.args.rules.now in
    let old = c.args.self.now in
    let named = c.names_of-ids.ensures in
    on_ok_weaker c.add_ids-4.result
    (λ h. adds_parts rules old _ (parts_seen c.args.parts.now)
    (c.in_ok-add_ids.ensures ∙ ap (added old.registered.programs) (named.programs rules))
    (c.in_ok-add_ids-2.ensures ∙ ap (added old.registered.applicants) (named.singles rules))
    (c.in_ok-add_ids-3.ensures ∙ ap (added old.registered.couples) (named.couples rules))
    (h ∙ ap (added old.applicants) (named.applicants rules)))
    c.add_ids-4.ensures
