use Rattle.std.proofs.Common.{length}
use Rattle.mt_terms.proofs.ListFacts.{item_below}
use Rattle.mt_report.proofs.aside.push_couples.Goals as goal

pub couple_id-requires : goal.couple_id-requires
couple_id-requires c =
    item_below c.args.aside.now c.loop-couple.couple-index c.couple-item.result (length c.args.roster.now.market.couples) c.loop-couple-test.true c.couple-item.is c.requires
