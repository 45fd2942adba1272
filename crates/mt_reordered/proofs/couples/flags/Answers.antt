use Rattle.mt_reordered.proofs.PlaceFacts.{flags_first, flags_more}
use Rattle.mt_reordered.proofs.couples.flags.Goals as goal

pub loop-couple-init : goal.loop-couple-init
loop-couple-init c = flags_first c.args.couples c.in_ok-flags.flags.items (c.in_ok-flags.ensures.items_if_clones_equal (λ y e. e))

pub loop-couple-preserved : goal.loop-couple-preserved
loop-couple-preserved c =
    flags_more c.args.list.now c.loop-couple.couple-index c.args.couples c.couple-item.result c.loop-couple.flags.items c.deref_mut.result.now c.mark.new.flags _
    c.loop-couple-test.true c.couple-item.is c.loop-couple.invariant c.deref_mut.ensures.value c.mark.ensures c.loop-couple.flags.ok.0
