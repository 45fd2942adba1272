use Rattle.std.proofs.Common.{◌∙◌, ap, true}
use Rattle.clap.specs.Simple.{app_of_fields, on_top}
use Rattle.mt_program.proofs.command.plain_command.Goals as goal

pub returns : goal.returns
returns c =
    let unnamed = ap app_of_fields c.no_binary_name.ensures
    ∙ ap (on_top (λ s. record s { no_binary_name = true })) c.new.ensures.app in
    let versioned = ap app_of_fields c.version.ensures ∙ ap (on_top (λ s. record s { has_version = true })) unnamed in
    ap app_of_fields c.after_help.ensures ∙ ap app_of_fields c.about.ensures ∙ versioned
