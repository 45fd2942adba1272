use Rattle.std.proofs.lemmas.Grind.{common_steps}
use Rattle.std.proofs.Common.{arith}
use Rattle.mt_assignment.proofs.assignment.Assignment.opens_between.Goals as goal

pub loop-pair-preserved : goal.loop-pair-preserved
loop-pair-preserved c = grind (arith, common_steps)

pub returns : goal.returns
returns c = grind (arith, common_steps)

pub returns-then-would_be_taken : goal.returns-then-would_be_taken
returns-then-would_be_taken c = grind (arith, common_steps)
