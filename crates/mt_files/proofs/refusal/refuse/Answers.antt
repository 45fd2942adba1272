use Rattle.std.proofs.Common.{◌≡◌, ℕ, List, ◌∙◌, ap}
use Rattle.mt_files.specs.Text.{refused_line}
use Rattle.mt_files.specs.declared.source.Source.{Source}
use Rattle.mt_files.proofs.refusal.refuse.Goals as goal

line_is : (word : List ℕ) (file : Source) (code row : ℕ) (written line id other : List ℕ) → written ≡ line → line ≡ refused_line word file code row id → id ≡ other
    → written ≡ refused_line word file code row other
line_is word file code row written line id other p q r = p ∙ q ∙ ap (refused_line word file code row) r

pub returns-clause-written : goal.returns-clause-written
returns-clause-written g c =
    let e = c.args.refusal.now in
    rw (line_is c.args.word.now c.args.source e.code e.row _ _ _ _ c.as_bytes-2.ensures c.refused-line.ensures c.as_bytes.ensures.bytes) at c.end.ensures.written
