use Rattle.std.proofs.Common.{arith}
use Rattle.mt_passes.proofs.unknown.first_unknown_of_pairs.Goals as goal

pub loop-pair-preserved : goal.loop-pair-preserved
loop-pair-preserved c = grind arith

pub returns-in-Some-unknown_of_pair : goal.returns-in-Some-unknown_of_pair
returns-in-Some-unknown_of_pair c = grind arith
