use Rattle.std.proofs.Common.{◌≡◌, ◌&&◌, ◌∙◌, Bool, true, false, ap, subst, sym}
use Rattle.std.specs.List.{list_all}
use Rattle.mt_terms.specs.Market.{Registered}
use Rattle.mt_terms.specs.Registration.Accepted.{IsRegistration}
use Rattle.mt_explain.specs.Lines.{is_open, line_if}
use Rattle.mt_findings.proofs.OpenFacts.{taken_by_lines, within_list}
use Rattle.mt_findings.proofs.taken.is_taken.Goals as goal

pub option_lines-lines-requires-clause-option : goal.option_lines-lines-requires-clause-option
option_lines-lines-requires-clause-option c =
    let e = c.args.tables.now in
    within_list e.registered.market e.places c.args.agent.now c.args.option c.requires.option

pub returns-then-is_open_if : goal.returns-then-is_open_if
returns-then-is_open_if c =
    let e = c.args.tables.now in
    let registration : IsRegistration e.registered = subst (λ (x : Registered). IsRegistration x) c.roster.ensures c.is_of_a_file.ensures in
    let lines = c.option_lines-lines.result in
    let first : list_all is_open (line_if lines.0) ≡ true = sym c.is_open_if.ensures ∙ c.if-is_open_if.true in
    c.is_open_if-then-is_open_if.ensures
    ∙ sym (ap (λ (b : Bool). b && list_all is_open (line_if lines.1)) first)
    ∙ taken_by_lines e.registered.market registration.well_formed e.places c.matched.ensures.fits c.args.agent.now c.requires.agent c.args.option c.requires.option lines.0 lines.1
    c.option_lines-lines.ensures

pub returns-else-is_open_if : goal.returns-else-is_open_if
returns-else-is_open_if c =
    let e = c.args.tables.now in
    let registration : IsRegistration e.registered = subst (λ (x : Registered). IsRegistration x) c.roster.ensures c.is_of_a_file.ensures in
    let lines = c.option_lines-lines.result in
    let first : list_all is_open (line_if lines.0) ≡ false = sym c.is_open_if.ensures ∙ c.if-is_open_if.false in
    c.if-is_open_if.false
    ∙ sym (ap (λ (b : Bool). b && list_all is_open (line_if lines.1)) first)
    ∙ taken_by_lines e.registered.market registration.well_formed e.places c.matched.ensures.fits c.args.agent.now c.requires.agent c.args.option c.requires.option lines.0 lines.1
    c.option_lines-lines.ensures
