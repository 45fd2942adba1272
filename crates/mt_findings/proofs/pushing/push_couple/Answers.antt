use Rattle.std.proofs.Common.{◌≡◌, ◌++◌, ◌∙◌, refl, ap, ℕ, List}
use Rattle.std.specs.Prelude.{codes}
use Rattle.mt_terms.specs.declared.numbers.Agent.TheVariants.{Couple}
use Rattle.mt_first_finding.proofs.OptionFacts.{couple_line, couple_there, in_pairs, programs_below}
use Rattle.mt_findings.proofs.LineFacts.{couple_pieces}
use Rattle.mt_findings.proofs.pushing.push_couple.Goals as goal

pub couple_list-requires : goal.couple_list-requires
couple_list-requires c = couple_there c.args.roster.now (Couple c.args.couple) c.args.option c.requires.option c.args.couple refl

pub bounds-couple_list-option : goal.bounds-couple_list-option
bounds-couple_list-option c = in_pairs c.args.roster.now (Couple c.args.couple) c.args.option c.requires.option c.args.couple c.couple_list.result.now refl c.couple_list.ensures

pub couple_id-requires : goal.couple_id-requires
couple_id-requires c = couple_there c.args.roster.now (Couple c.args.couple) c.args.option c.requires.option c.args.couple refl

pub place_id-requires : goal.place_id-requires
place_id-requires c =
    (programs_below c.args.roster.now (Couple c.args.couple) c.args.option c.requires.option c.args.couple c.couple_list.result.now refl c.couple_list.ensures
    (c.is_of_a_file.ensures.pairs_below c.args.couple) c.index-couple_list-option.result).0

pub place_id-requires-2 : goal.place_id-requires-2
place_id-requires-2 c =
    (programs_below c.args.roster.now (Couple c.args.couple) c.args.option c.requires.option c.args.couple c.couple_list.result.now refl c.couple_list.ensures
    (c.is_of_a_file.ensures.pairs_below c.args.couple) c.index-couple_list-option-2.result).1

pub returns : goal.returns
returns c =
    let id = c.couple_id.result.now in
    let first = c.place_id.result.now in
    let second = c.place_id-2.result.now in
    let pushed : c.push-2.new.self
    ≡ (((((((c.args.page.now ++ codes "check,1,blocks,couple") ++ codes ",") ++ id) ++ codes ",") ++ first) ++ codes ",") ++ second) ++ codes "\n" =
    rw (c.push-2.ensures.text, c.push_field-3.ensures.field, c.push_field-2.ensures.field, c.push_field.ensures.field, c.push.ensures.text) in
    pushed ∙ couple_pieces c.args.page.now id first second
    ∙ ap (λ (x : List ℕ). c.args.page.now ++ x)
    (couple_line c.args.roster.now (Couple c.args.couple) c.args.option c.requires.option c.args.couple c.couple_list.result.now refl c.couple_list.ensures _ _ _ _ _
    c.index-couple_list-option.result c.index-couple_list-option-2.result refl refl c.couple_id.ensures.value c.place_id.ensures.value c.place_id-2.ensures.value)
