use Rattle.std.proofs.Common.{◌<◌, length, subst, sym}
use Rattle.mt_reordered.specs.Copied.{pairs_at}
use Rattle.mt_reordered.proofs.ColumnFacts.{one_more_of}
use Rattle.mt_reordered.proofs.couples.pairs.Goals as goal

pub couple_list-requires : goal.couple_list-requires
couple_list-requires c =
    subst (λ j. j < length c.args.roster.now.market.couples) (sym c.couple-item.is)
    (c.requires c.loop-couple.couple-index c.couple-item.result c.loop-couple-test.true)

pub loop-couple-preserved : goal.loop-couple-preserved
loop-couple-preserved c =
    one_more_of (pairs_at c.args.roster.now.market) c.args.order.now c.loop-couple.couple-index c.couple-item.result _ _ c.couple_list.result.now
    c.loop-couple-test.true c.couple-item.is c.loop-couple.invariant c.couple_list.ensures c.in_ok-push_list.ensures.ok
