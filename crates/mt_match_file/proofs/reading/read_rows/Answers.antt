use Rattle.std.proofs.Common.{arith}
use Rattle.std.proofs.lemmas.Grind.{elements}
use Rattle.mt_match_file.proofs.reading.read_rows.Goals as goal

pub loop-row-init : goal.loop-row-init
loop-row-init c = grind (arith, elements)

pub loop-row-preserved : goal.loop-row-preserved
loop-row-preserved c = grind arith
