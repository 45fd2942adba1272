use Rattle.std.proofs.Common.{arith}
use Rattle.std.proofs.lemmas.Grind.{common_steps}
use Rattle.mt_terms.proofs.BelowFacts.{below_more}
use Rattle.mt_reordered.proofs.couples.all_couples.Goals as goal

pub loop-number-preserved : goal.loop-number-preserved
loop-number-preserved c = grind (arith, common_steps, below_more)
