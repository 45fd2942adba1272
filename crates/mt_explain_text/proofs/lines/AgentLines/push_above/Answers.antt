use Rattle.std.proofs.Common.{◌≡◌, ◌+◌, ◌++◌, ◌∙◌, ℕ, Some, ap, arith}
use Rattle.std.specs.Prelude.{codes}
use Rattle.mt_explain_text.specs.Text.{number_text, told_text}
use Rattle.mt_explain_text.proofs.PageFacts.{above_front, above_pieces, above_same}
use Rattle.mt_explain_text.proofs.lines.AgentLines.push_above.Goals as goal

pub returns-clause-length : goal.returns-clause-length
returns-clause-length c =
    omega (
      arith,
      c.push-2.ensures.length,
      c.push_field-4.ensures.length,
      c.push_told-3.ensures.length,
      c.push_told-2.ensures.length,
      c.push_told.ensures.length,
      c.push_field-3.ensures.length,
      c.push_field-2.ensures.length,
      c.push_number.ensures.length,
      c.push_field.ensures.length,
      c.push.ensures.length,
      c.agent_id.ensures.short,
      c.program_id.ensures.short,
      c.applicant_id.ensures.short,
      c.why_field.ensures.short,
    )

pub returns-clause-line : goal.returns-clause-line
returns-clause-line c =
    let id = c.agent_id.result.now in
    let choice = number_text (Some (c.from.result + 1)) in
    let program = c.program_id.result.now in
    let member = c.applicant_id.result.now in
    let rank = told_text c.args.self.now.is_public c.rank_of.result in
    let quota = told_text c.args.self.now.is_public (Some c.from-2.result) in
    let ahead = told_text c.args.self.now.is_public c.ahead_of.result in
    let why = c.why_field.result.now in
    let front : c.push_field-3.new.self ≡ above_front c.args.page.now id choice program member =
    rw (c.push_field-3.ensures.field, c.push_field-2.ensures.field, c.push_number.ensures.field, c.push_field.ensures.field, c.push.ensures.text) in
    let pushed : c.push-2.new.self
    ≡ ((((((((above_front c.args.page.now id choice program member ++ codes ",") ++ rank) ++ codes ",") ++ quota) ++ codes ",") ++ ahead) ++ codes ",") ++ why) ++ codes "\n" =
    rw (c.push-2.ensures.text, c.push_field-4.ensures.field, c.push_told-3.ensures.field, c.push_told-2.ensures.field, c.push_told.ensures.field, front) in
    let all = pushed ∙ above_pieces c.args.page.now id choice program member rank quota ahead why in
    let is_public = c.args.self.now.is_public in
    all
    ∙ above_same c.args.page.now id choice program member rank quota ahead why _ _ _ _ _ _ _ _
    c.agent_id.ensures.value
    (ap (λ (n : ℕ). number_text (Some (n + 1))) c.from.ensures)
    c.program_id.ensures.value
    c.applicant_id.ensures.value
    (ap (told_text is_public) c.rank_of.ensures)
    (ap (λ (n : ℕ). told_text is_public (Some n)) c.from-2.ensures)
    (ap (told_text is_public) c.ahead_of.ensures)
    c.why_field.ensures.value
