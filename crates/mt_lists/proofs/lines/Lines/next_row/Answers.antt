use Rattle.std.proofs.Common.{◌≡◌, ◌==◌, ◌∙◌, length, true, false, rules}
use Rattle.mt_lists.proofs.LineFacts.{rows-blank, rows-line, rows-nothing}
use Rattle.mt_lists.proofs.lines.Lines.next_row.Goals as goal

pub returns-then-not-is_empty : goal.returns-then-not-is_empty
returns-then-not-is_empty c =
    let some : (length c.next_line.result.0.now == 0) ≡ false = search rules in
    c.loop-left.invariant ∙ rw c.trimmed.ensures (rows-line c.loop-left.left.text.now c.next_line.result.0.now c.next_line.result.1.text.now c.next_line.ensures some)

pub loop-left-preserved : goal.loop-left-preserved
loop-left-preserved c =
    let blank : (length c.next_line.result.0.now == 0) ≡ true = search rules in
    c.loop-left.invariant ∙ rows-blank c.loop-left.left.text.now c.next_line.result.0.now c.next_line.result.1.text.now c.next_line.ensures blank

pub returns : goal.returns
returns c =
    let none : length c.loop-left.left.text.now ≡ 0 = search rules in
    c.loop-left.invariant ∙ rows-nothing c.loop-left.left.text.now none
