use Rattle.std.proofs.Common.{arith}
use Rattle.std.proofs.lemmas.Grind.{common_steps}
use Rattle.mt_ranks.proofs.rows.begins.Goals as goal

pub overflow_add-total : goal.overflow_add-total
overflow_add-total c = grind (arith, common_steps)

pub loop-size-preserved : goal.loop-size-preserved
loop-size-preserved c = grind (arith, common_steps)
