use Rattle.std.proofs.lemmas.Grind.{common_steps}
use Rattle.std.proofs.Common.{arith}
use Rattle.mt_stage_tables.proofs.couple_list.CoupleLists.add.Goals as goal

pub returns : goal.returns
returns c = grind (arith, common_steps)
