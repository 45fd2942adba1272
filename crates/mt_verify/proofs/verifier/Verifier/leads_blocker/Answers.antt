use Rattle.std.proofs.Common.{ap, is_some, ◌∙◌}
use Rattle.mt_verify.proofs.BlockingFacts.{leads_blocker-is_some}
use Rattle.mt_verify.proofs.verifier.Verifier.leads_blocker.Goals as goal

pub returns : goal.returns
returns c =
    let self = c.args.self.now in
    c.is_some.ensures ∙ ap is_some c.blocker_led_by.ensures ∙ leads_blocker-is_some self.roster.now.market self.matched.now.places c.args.applicant
