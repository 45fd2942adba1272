use Rattle.std.proofs.Common.{arith}
use Rattle.std.proofs.lemmas.Grind.{common_steps, elements}
use Rattle.mt_numbering.proofs.withdrawals.applicant_numbers.Goals as goal

pub loop-one-preserved : goal.loop-one-preserved
loop-one-preserved c = grind (arith, common_steps)

pub returns : goal.returns
returns c = grind (arith, common_steps)

pub push_number-requires-in-Couple-2 : goal.push_number-requires-in-Couple-2
push_number-requires-in-Couple-2 c = grind (arith, elements)
