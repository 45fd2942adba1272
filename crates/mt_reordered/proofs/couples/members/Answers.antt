use Rattle.std.proofs.Common.{ℕ, ◌<◌, length, subst, sym, ap₂}
use Rattle.mt_reordered.specs.Copied.{members_at}
use Rattle.mt_reordered.proofs.ColumnFacts.{one_more_of}
use Rattle.mt_reordered.proofs.couples.members.Goals as goal

pub members-requires : goal.members-requires
members-requires c =
    subst (λ j. j < length c.args.roster.now.market.couples) (sym c.couple-item.is)
    (c.requires c.loop-couple.couple-index c.couple-item.result c.loop-couple-test.true)

pub loop-couple-preserved : goal.loop-couple-preserved
loop-couple-preserved c =
    let pair : ℕ → ℕ → ℕ × ℕ = λ a b. (a, b) in
    one_more_of (members_at c.args.roster.now.market) c.args.order.now c.loop-couple.couple-index c.couple-item.result _ _ c.members.result
    c.loop-couple-test.true c.couple-item.is c.loop-couple.invariant (ap₂ pair c.members.ensures.first c.members.ensures.second) c.in_ok-push.ensures.items
