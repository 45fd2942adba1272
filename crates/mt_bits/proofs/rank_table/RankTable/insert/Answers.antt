use Rattle.std.proofs.lemmas.Grind.{common_steps}
use Rattle.std.proofs.Common.{arith}
use Rattle.mt_bits.proofs.rank_table.RankTable.insert.Goals as goal

pub insert_beyond-requires-clause-list : goal.insert_beyond-requires-clause-list
insert_beyond-requires-clause-list c = grind (arith, common_steps)

pub mark-requires-clause-list : goal.mark-requires-clause-list
mark-requires-clause-list c = grind (arith, common_steps)

pub row-requires : goal.row-requires
row-requires c = grind (arith, common_steps)
