use Rattle.std.proofs.Common.{◌==◌, Some, ap, sym, ◌∙◌}
use Rattle.std.specs.List.{position}
use Rattle.std.specs.Option.{option_eq}
use Rattle.mt_verify.proofs.HeldFacts.{held_single}
use Rattle.mt_verify.proofs.verifier.Verifier.held_program.Goals as goal

pub returns-in_err-option : goal.returns-in_err-option
returns-in_err-option c =
    let self = c.args.self.now in
    c.from_residual.ensures ∙ sym c.in_err-option.was ∙ c.position_of_program.ensures
    ∙ ap (position (λ p. option_eq ◌==◌ c.place-place.result (Some p))) c.single_list.ensures
    ∙ held_single self.roster.now.market self.matched.now.places c.args.applicant c.place-place.result c.place-place.ensures

pub returns : goal.returns
returns c =
    let self = c.args.self.now in
    sym c.in_ok-option.was ∙ c.position_of_program.ensures
    ∙ ap (position (λ p. option_eq ◌==◌ c.place-place.result (Some p))) c.single_list.ensures
    ∙ held_single self.roster.now.market self.matched.now.places c.args.applicant c.place-place.result c.place-place.ensures
