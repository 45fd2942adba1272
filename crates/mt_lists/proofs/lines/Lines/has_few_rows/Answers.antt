use Rattle.std.proofs.Common.{arith}
use Rattle.mt_lists.proofs.LineFacts.{rows-within}
use Rattle.mt_lists.proofs.lines.Lines.has_few_rows.Goals as goal

pub returns : goal.returns
returns c = omega (arith, rows-within c.args.self.text.now)
