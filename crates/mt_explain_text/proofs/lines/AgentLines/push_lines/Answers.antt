use Rattle.std.proofs.Common.{◌++◌, ◌∙◌, List, ℕ, ap, append_assoc, sym}
use Rattle.std.proofs.lemmas.Grind.{flat_map-append}
use Rattle.mt_explain.specs.Lines.{line_if}
use Rattle.mt_explain_text.specs.Text.{above_line, above_lines}
use Rattle.mt_explain_text.proofs.lines.AgentLines.push_lines.Goals as goal

pub returns : goal.returns
returns c =
    let r = c.args.self.now.tables.registered in
    let is_public = c.args.self.now.is_public in
    let one = line_if c.args.lines.now.0 in
    let other = line_if c.args.lines.now.1 in
    c.push_if-2.ensures.lines
    ∙ ap (λ (text : List ℕ). text ++ above_lines r is_public c.args.agent.now other) c.push_if.ensures.lines
    ∙ append_assoc c.args.page.now (above_lines r is_public c.args.agent.now one) (above_lines r is_public c.args.agent.now other)
    ∙ ap (λ (text : List ℕ). c.args.page.now ++ text) (sym (flat_map-append (above_line r is_public c.args.agent.now) one other))
