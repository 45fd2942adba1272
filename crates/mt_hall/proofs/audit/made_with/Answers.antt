use Rattle.std.proofs.Common.{◌<◌, arith, slice_index_or, subst}
use Rattle.std.proofs.lemmas.Grind.{common_steps}
use Rattle.mt_desks.specs.Parts.{PassView}
use Rattle.mt_hall.proofs.Auditing.{too_many}
use Rattle.mt_hall.proofs.audit.made_with.Goals as goal

pub returns-in-None : goal.returns-in-None
returns-in-None g c =
    let less : c.loop-pass.left < slice_index_or c.pass-item.result.by_applicant c.args.applicant 0 = omega (arith, c.proposed_for.ensures, c.in-None.ensures) in
    too_many (λ (s : PassView). slice_index_or s.by_applicant c.args.applicant 0) c.args.passes.now c.loop-pass.pass-index c.loop-pass.left c.args.number c.pass-item.result c.loop-pass-test.true c.loop-pass.invariant
    (subst (λ (s : PassView). c.loop-pass.left < slice_index_or s.by_applicant c.args.applicant 0) c.pass-item.is less)

pub loop-pass-preserved : goal.loop-pass-preserved
loop-pass-preserved g c = grind (arith, common_steps)
