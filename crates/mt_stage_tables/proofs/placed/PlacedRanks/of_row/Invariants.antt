use Rattle.std.proofs.Common.{◌-◌, length}
use Rattle.mt_stage_tables.proofs.RowFacts.{HasFront}
use Rattle.mt_stage_tables.proofs.placed.PlacedRanks.of_row.Given as goal

abbrev pub invariant-loop-rank : goal.invariant-loop-rank
invariant-loop-rank l = HasFront l.row l.next l.ranks.items

abbrev pub decreases-loop-rank : goal.decreases-loop-rank
decreases-loop-rank l = length l.row - l.next
