use Rattle.mt_reordered.specs.Copied.{quota_at}
use Rattle.mt_reordered.proofs.ColumnFacts.{one_more}
use Rattle.mt_reordered.proofs.copies.quotas.Goals as goal

pub loop-number-preserved : goal.loop-number-preserved
loop-number-preserved c =
    one_more (quota_at c.args.roster.now.market) c.loop-number.number _ _ c.quota.result c.loop-number.invariant c.quota.ensures c.in_ok-push.ensures.items
