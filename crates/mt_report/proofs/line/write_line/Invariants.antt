use Rattle.std.proofs.Common.{◌≡◌, ◌≤◌, ◌∷◌, length, take}
use Rattle.mt_terms.specs.Text.{line}
use Rattle.mt_report.proofs.LineFacts.{Completes, texts}
use Rattle.mt_report.proofs.line.write_line.Given as goal

-- What is in the buffer, with the fields that are left, is the whole line.
abbrev pub invariant-loop-field : goal.invariant-loop-field
invariant-loop-field l = record {
  completes : Completes (take l.end l.buffer) l.fields l.field-index (line (l.first ∷ texts l.fields));
  within : l.end ≤ length l.buffer;
  fits : length (line (l.first ∷ texts l.fields)) ≤ length l.buffer;
  len : length l.buffer ≡ length l.fn.buffer;
}
