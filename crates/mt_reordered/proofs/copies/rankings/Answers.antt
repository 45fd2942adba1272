use Rattle.mt_reordered.specs.Copied.{ranking_at}
use Rattle.mt_reordered.proofs.ColumnFacts.{one_more}
use Rattle.mt_reordered.proofs.copies.rankings.Goals as goal

pub loop-number-preserved : goal.loop-number-preserved
loop-number-preserved c =
    one_more (ranking_at c.args.roster.now.market) c.loop-number.number _ _ c.program_list.result.now c.loop-number.invariant c.program_list.ensures c.in_ok-push_list.ensures.ok
