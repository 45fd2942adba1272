use Rattle.std.proofs.Common.{◌≡◌, ◌++◌, ◌∙◌}
use Rattle.std.specs.Prelude.{codes}
use Rattle.mt_findings.proofs.LineFacts.{one_piece}
use Rattle.mt_findings.proofs.pushing.push_one.Goals as goal

pub returns : goal.returns
returns c =
    let pushed : c.push-2.new.self ≡ (((c.args.page.now ++ c.args.front.now) ++ codes ",") ++ c.args.field.now) ++ codes "\n" =
    rw (c.push-2.ensures.text, c.push_field.ensures.field, c.push.ensures.text) in
    pushed ∙ one_piece c.args.page.now c.args.front.now c.args.field.now
