use Rattle.std.proofs.Common.{◌≡◌, ◌++◌, ◌∙◌, ap}
use Rattle.std.specs.Prelude.{codes}
use Rattle.mt_terms.specs.Market.{Registered, couple_of}
use Rattle.mt_explain_text.specs.Text.{number_text}
use Rattle.mt_explain_text.proofs.PageFacts.{couple_pieces}
use Rattle.mt_explain_text.proofs.lines.AgentLines.push_couple.Goals as goal

pub returns : goal.returns
returns c =
    let id = c.couple_id.result.now in
    let first = c.place_id.result.now in
    let second = c.place_id-2.result.now in
    let choice = number_text c.number_of-choice.result in
    let pushed : c.push-2.new.self
    ≡ (((((((((c.args.page.now ++ codes "couple") ++ codes ",") ++ id) ++ codes ",") ++ first) ++ codes ",") ++ second) ++ codes ",") ++ choice) ++ codes ",,,,\n" =
    rw (c.push-2.ensures.text, c.push_number.ensures.field, c.push_field-3.ensures.field, c.push_field-2.ensures.field, c.push_field.ensures.field, c.push.ensures.text) in
    let all = pushed ∙ couple_pieces c.args.page.now id first second choice in
    let r = c.args.self.now.tables.registered in
    let first_is : c.members-first.result.0 ≡ (couple_of r.market c.args.couple).first =
    c.members-first.ensures.first ∙ ap (λ (x : Registered). (couple_of x.market c.args.couple).first) c.roster.ensures in
    let second_is : c.members-first.result.1 ≡ (couple_of r.market c.args.couple).second =
    c.members-first.ensures.second ∙ ap (λ (x : Registered). (couple_of x.market c.args.couple).second) c.roster.ensures in
    rw (← c.held_option.ensures, ← c.number_of-choice.ensures, ← c.couple_id.ensures.value, ← first_is, ← second_is, ← c.place_id.ensures.value, ← c.place_id-2.ensures.value) all
