use Rattle.std.proofs.Common.{◌∙◌, arith}
use Rattle.std.proofs.lemmas.Grind.{common_steps}
use Rattle.std.proofs.lemmas.Result.{IfOk-weaker}
use Rattle.mt_first_finding.proofs.OptionFacts.{couple_line, couple_there, in_list, in_pairs, program_below, programs_below, single_there}
use Rattle.mt_check.proofs.text.blocker_line.Goals as goal

pub place_id-place-requires : goal.place_id-place-requires
place_id-place-requires c =
    program_below c.args.roster.now c.args.agent c.args.option c.requires c.is_of_a_file.ensures.well_formed c.in-Single.applicant c.index-single_list-option.result c.single_list.result.now
    c.in-Single.is c.single_list.ensures c.index-single_list-option.is

pub place_id-first-requires : goal.place_id-first-requires
place_id-first-requires c =
    (programs_below c.args.roster.now c.args.agent c.args.option c.requires c.in-Couple.couple c.couple_list.result.now c.in-Couple.is c.couple_list.ensures
    (c.is_of_a_file.ensures.pairs_below c.in-Couple.couple) c.index-couple_list-option.result).0

pub place_id-second-requires : goal.place_id-second-requires
place_id-second-requires c =
    (programs_below c.args.roster.now c.args.agent c.args.option c.requires c.in-Couple.couple c.couple_list.result.now c.in-Couple.is c.couple_list.ensures
    (c.is_of_a_file.ensures.pairs_below c.in-Couple.couple) c.index-couple_list-option-in-Couple.result).1

pub returns-in-Couple : goal.returns-in-Couple
returns-in-Couple c =
    IfOk-weaker c.check_line-in-Couple.result _ _
    (λ text is. is
    ∙ couple_line c.args.roster.now c.args.agent c.args.option c.requires c.in-Couple.couple c.couple_list.result.now c.in-Couple.is c.couple_list.ensures _ _ _ _ _
    c.index-couple_list-option.result c.index-couple_list-option-in-Couple.result c.as_slice-word.ensures c.as_slice-in-Couple.ensures c.couple_id-id.ensures c.place_id-first.ensures
    c.place_id-second.ensures)
    c.check_line-in-Couple.ensures

pub returns-in-Single : goal.returns-in-Single
returns-in-Single c = grind (arith, common_steps)

pub applicant_id-id-requires : goal.applicant_id-id-requires
applicant_id-id-requires c = single_there c.args.roster.now c.args.agent c.args.option c.requires c.in-Single.applicant c.in-Single.is

pub single_list-requires : goal.single_list-requires
single_list-requires c = single_there c.args.roster.now c.args.agent c.args.option c.requires c.in-Single.applicant c.in-Single.is

pub bounds-single_list-option : goal.bounds-single_list-option
bounds-single_list-option c = in_list c.args.roster.now c.args.agent c.args.option c.requires c.in-Single.applicant c.single_list.result.now c.in-Single.is c.single_list.ensures

pub couple_id-id-requires : goal.couple_id-id-requires
couple_id-id-requires c = couple_there c.args.roster.now c.args.agent c.args.option c.requires c.in-Couple.couple c.in-Couple.is

pub couple_list-requires : goal.couple_list-requires
couple_list-requires c = couple_there c.args.roster.now c.args.agent c.args.option c.requires c.in-Couple.couple c.in-Couple.is

pub bounds-couple_list-option : goal.bounds-couple_list-option
bounds-couple_list-option c = in_pairs c.args.roster.now c.args.agent c.args.option c.requires c.in-Couple.couple c.couple_list.result.now c.in-Couple.is c.couple_list.ensures
