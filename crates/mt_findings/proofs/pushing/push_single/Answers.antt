use Rattle.std.proofs.Common.{◌≡◌, ◌++◌, ◌∷◌, [], ◌∙◌, refl, ap, ℕ, List}
use Rattle.std.specs.Prelude.{codes}
use Rattle.mt_terms.specs.Text.{name_of}
use Rattle.mt_terms.specs.declared.numbers.Agent.TheVariants.{Single}
use Rattle.mt_first_finding.specs.Text.{check_line}
use Rattle.mt_first_finding.proofs.OptionFacts.{in_list, program_below, single_there}
use Rattle.mt_findings.proofs.LineFacts.{single_line, single_pieces}
use Rattle.mt_findings.proofs.pushing.push_single.Goals as goal

pub single_list-requires : goal.single_list-requires
single_list-requires c = single_there c.args.roster.now (Single c.args.applicant) c.args.option c.requires.option c.args.applicant refl

pub bounds-single_list-option : goal.bounds-single_list-option
bounds-single_list-option c = in_list c.args.roster.now (Single c.args.applicant) c.args.option c.requires.option c.args.applicant c.single_list.result.now refl c.single_list.ensures

pub applicant_id-requires : goal.applicant_id-requires
applicant_id-requires c = single_there c.args.roster.now (Single c.args.applicant) c.args.option c.requires.option c.args.applicant refl

pub program_id-requires : goal.program_id-requires
program_id-requires c =
    program_below c.args.roster.now (Single c.args.applicant) c.args.option c.requires.option c.is_of_a_file.ensures.well_formed c.args.applicant c.index-single_list-option.result c.single_list.result.now
    refl c.single_list.ensures c.index-single_list-option.is

pub returns : goal.returns
returns c =
    let id = c.applicant_id.result.now in
    let place = c.program_id.result.now in
    let pushed : c.push-2.new.self ≡ (((((c.args.page.now ++ codes "check,1,blocks,applicant") ++ codes ",") ++ id) ++ codes ",") ++ place) ++ codes "\n" =
    rw (c.push-2.ensures.text, c.push_field-2.ensures.field, c.push_field.ensures.field, c.push.ensures.text) in
    let all = pushed ∙ single_pieces c.args.page.now id place in
    let line = single_line c.args.roster.now c.args.applicant c.args.option c.index-single_list-option.result c.single_list.result.now c.requires.option c.single_list.ensures c.index-single_list-option.is in
    all
    ∙ ap (λ (x : List ℕ). c.args.page.now ++ check_line (codes "blocks" ∷ codes "applicant" ∷ x ∷ place ∷ [])) c.applicant_id.ensures.value
    ∙ ap (λ (x : List ℕ). c.args.page.now ++ check_line (codes "blocks" ∷ codes "applicant" ∷ name_of c.args.roster.now.names.applicants c.args.applicant ∷ x ∷ [])) c.program_id.ensures.value
    ∙ ap (λ (x : List ℕ). c.args.page.now ++ x) line
