use Rattle.std.proofs.Common.{◌<◌, length, ap, subst, sym, arith}
use Rattle.mt_terms.specs.Market.{Registered, list_of}
use Rattle.mt_explain.proofs.OptionFacts.{listed_program}
use Rattle.mt_explain.proofs.options.single_line.Goals as goal

pub quota-requires : goal.quota-requires
quota-requires c =
    let within = subst (λ (r : Registered). c.args.option < length (list_of r.market c.args.applicant)) (sym c.roster-roster.ensures) c.requires.option in
    listed_program c.roster-roster.result.now.market c.is_of_a_file.ensures.well_formed c.args.applicant c.args.option c.index-single_list-option.result
    c.single_list.result.now c.single_list.ensures c.index-single_list-option.is within

pub single_prospect-requires-clause-program : goal.single_prospect-requires-clause-program
single_prospect-requires-clause-program c =
    let within = subst (λ (r : Registered). c.args.option < length (list_of r.market c.args.applicant)) (sym c.roster-roster.ensures) c.requires.option in
    let below = listed_program c.roster-roster.result.now.market c.is_of_a_file.ensures.well_formed c.args.applicant c.args.option c.index-single_list-option.result
    c.single_list.result.now c.single_list.ensures c.index-single_list-option.is within in
    omega (arith, below, ap (λ (r : Registered). length r.market.programs) c.roster-roster.ensures)
