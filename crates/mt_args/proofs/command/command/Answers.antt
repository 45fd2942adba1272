use Rattle.std.proofs.Common.{◌∙◌, ap, ap₂}
use Rattle.std.proofs.lemmas.Result.{IfOk-weaker}
use Rattle.clap.specs.Words.{rule_of, with_rule}
use Rattle.clap.specs.declared.builder.arg.Arg.{Arg}
use Rattle.mt_args.proofs.command.command.Goals as goal

pub returns : goal.returns
returns c =
    IfOk-weaker c.arg-5.result _ _
    (λ r added. added.shape c.set_aside.ensures.local
    ∙ ap₂ with_rule (c.in_ok-arg-2.ensures.shape c.orders.ensures.local
    ∙ ap₂ with_rule (c.in_ok-with_limits.ensures.shape c.budget.ensures.local
    ∙ ap₂ with_rule (c.in_ok-arg.ensures.shape c.workers.ensures.local
    ∙ ap₂ with_rule (c.in_ok-with_file.ensures.shape (ap (λ (a : Arg). a.global) c.help-file.ensures ∙ c.new.ensures.optional.1)
    ∙ ap₂ with_rule c.plain_command.ensures (ap rule_of c.help-file.ensures ∙ c.new.ensures.rule))
    c.workers.ensures.rule) c.budget.ensures.rule) c.orders.ensures.rule) c.set_aside.ensures.rule)
    c.arg-5.ensures
