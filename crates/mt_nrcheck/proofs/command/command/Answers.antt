use Rattle.std.proofs.Common.{◌∙◌, ap₂}
use Rattle.std.proofs.lemmas.Result.{IfOk-weaker}
use Rattle.clap.specs.Words.{with_rule}
use Rattle.mt_nrcheck.proofs.command.command.Goals as goal

pub returns : goal.returns
returns c =
    let market = c.in_ok-arg.ensures.shape c.file_arg.ensures.local ∙ ap₂ with_rule c.plain_command.ensures c.file_arg.ensures.rule in
    let matched = c.in_ok-arg-2.ensures.shape c.file_arg-2.ensures.local ∙ ap₂ with_rule market c.file_arg-2.ensures.rule in
    let all = c.in_ok-arg-3.ensures.shape c.flag_arg.ensures.local ∙ ap₂ with_rule matched c.flag_arg.ensures.rule in
    IfOk-weaker c.arg-4.result _ _ (λ r added. added.shape c.flag_arg-2.ensures.local ∙ ap₂ with_rule all c.flag_arg-2.ensures.rule) c.arg-4.ensures
