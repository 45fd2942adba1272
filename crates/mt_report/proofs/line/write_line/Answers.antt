use Rattle.std.proofs.Common.{arith}
use Rattle.mt_report.proofs.LineFacts.{begins, first_within}
use Rattle.mt_report.proofs.line.write_line.Goals as goal

pub loop-field-init : goal.loop-field-init
loop-field-init c =
    let first = c.args.first.now in
    let fields = c.args.fields.now in
    let low = first_within first fields in
    record {
      completes = rw c.put-end.ensures.text (begins first fields);
      within = omega (arith, low, c.put-end.ensures.end, c.put-end.ensures.len, c.requires);
      fits = omega (arith, c.put-end.ensures.len, c.requires);
      len = c.put-end.ensures.len;
    }
