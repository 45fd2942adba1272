use Rattle.std.proofs.lemmas.Grind.{common_steps}
use Rattle.std.proofs.Common.{arith}
use Rattle.mt_assignment.proofs.MoveSteps.{program_sent_to}
use Rattle.mt_assignment.proofs.assignment.Assignment.displaced.Goals as goal

pub add_displaced-requires : goal.add_displaced-requires
add_displaced-requires c =
    c.requires c.in-Some.program (program_sent_to c.args.sent.now c.loop-place.place-index c.loop-place-item.result c.in-Some.program c.loop-place-test.true c.loop-place-item.is c.in-Some.is)

pub loop-place-preserved : goal.loop-place-preserved
loop-place-preserved c = grind (arith, common_steps)

pub returns : goal.returns
returns c = grind (arith, common_steps)
