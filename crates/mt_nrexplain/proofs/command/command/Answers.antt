use Rattle.std.proofs.Common.{◌∙◌, ap₂}
use Rattle.std.proofs.lemmas.Result.{IfOk-weaker}
use Rattle.clap.specs.Words.{with_rule}
use Rattle.mt_nrexplain.proofs.command.command.Goals as goal

pub returns : goal.returns
returns c =
    IfOk-weaker c.arg-2.result _ _
    (λ r added. added.shape c.flag_arg.ensures.local
    ∙ ap₂ with_rule (c.in_ok-arg.ensures.shape c.ids.ensures.local ∙ ap₂ with_rule c.in_ok-with_files.ensures c.ids.ensures.rule) c.flag_arg.ensures.rule)
    c.arg-2.ensures
