use Rattle.std.proofs.Common.{◌+◌, subst, sym}
use Rattle.mt_stage_tables.proofs.RowFacts.{front_more, front_none, HasFront}
use Rattle.mt_stage_tables.proofs.placed.PlacedRanks.of_row.Goals as goal

pub loop-rank-init : goal.loop-rank-init
loop-rank-init c = subst (HasFront c.args.row.now 0) (sym c.in_ok-ranks.ensures.items) (front_none c.args.row.now)

pub loop-rank-preserved : goal.loop-rank-preserved
loop-rank-preserved c =
    subst (HasFront c.args.row.now (c.in-Some.rank + 1)) (sym c.in_ok-push.ensures.items)
    (front_more c.args.row.now c.loop-rank.next c.in-Some.rank c.loop-rank.ranks.items c.loop-rank.invariant c.in-Some.ensures.first)
