use Rattle.std.proofs.Common.{◌≡◌, ◌++◌, ◌∙◌}
use Rattle.std.specs.Prelude.{codes}
use Rattle.mt_explain_text.specs.Text.{number_text, told_text}
use Rattle.mt_explain_text.proofs.PageFacts.{single_pieces}
use Rattle.mt_explain_text.proofs.lines.AgentLines.push_single.Goals as goal

pub returns : goal.returns
returns c =
    let id = c.applicant_id.result.now in
    let place = c.place_id.result.now in
    let choice = number_text c.number_of-choice.result in
    let rank = told_text c.args.self.now.is_public c.number_of-rank.result in
    let pushed : c.push-2.new.self
    ≡ (((((((((c.args.page.now ++ codes "applicant") ++ codes ",") ++ id) ++ codes ",") ++ place) ++ codes ",") ++ choice) ++ codes ",") ++ rank) ++ codes ",,,,\n" =
    rw (c.push-2.ensures.text, c.push_told.ensures.field, c.push_number.ensures.field, c.push_field-2.ensures.field, c.push_field.ensures.field, c.push.ensures.text) in
    let all = pushed ∙ single_pieces c.args.page.now id place choice rank in
    rw (← c.held_option.ensures, ← c.number_of-choice.ensures, ← c.rank_at_place.ensures, ← c.number_of-rank.ensures, ← c.applicant_id.ensures.value, ← c.place_id.ensures.value) all
