use Rattle.std.proofs.Common.{◌∙◌, ap₂}
use Rattle.std.proofs.lemmas.Result.{IfOk-weaker}
use Rattle.clap.specs.Words.{with_rule}
use Rattle.mt_file_programs.proofs.arguments.two_files_command.Goals as goal

pub returns : goal.returns
returns c =
    IfOk-weaker c.arg-2.result _ _
    (λ r added. added.shape c.file_arg-2.ensures.local
    ∙ ap₂ with_rule (c.in_ok-arg.ensures.shape c.file_arg.ensures.local ∙ ap₂ with_rule c.plain_command.ensures c.file_arg.ensures.rule) c.file_arg-2.ensures.rule)
    c.arg-2.ensures
