use Rattle.std.proofs.Common.{◌<◌, length, subst, sym}
use Rattle.mt_terms.specs.Text.{name_of}
use Rattle.mt_reordered.proofs.ColumnFacts.{one_more_of}
use Rattle.mt_reordered.proofs.couples.couple_ids.Goals as goal

pub couple_id-requires : goal.couple_id-requires
couple_id-requires c =
    subst (λ j. j < length c.args.roster.now.market.couples) (sym c.couple-item.is)
    (c.requires c.loop-couple.couple-index c.couple-item.result c.loop-couple-test.true)

pub loop-couple-preserved : goal.loop-couple-preserved
loop-couple-preserved c =
    one_more_of (name_of c.args.roster.now.names.couples) c.args.order.now c.loop-couple.couple-index c.couple-item.result _ _ c.couple_id.result.now
    c.loop-couple-test.true c.couple-item.is c.loop-couple.invariant c.couple_id.ensures c.in_ok-push_list.ensures.ok
