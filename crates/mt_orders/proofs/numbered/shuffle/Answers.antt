use Rattle.std.proofs.Common.{◌-◌, ◌∙◌, sym, arith}
use Rattle.mt_orders.proofs.ShuffleFacts.{shuffle_end, shuffle_step}
use Rattle.mt_orders.proofs.numbered.shuffle.Goals as goal

pub loop-last-preserved : goal.loop-last-preserved
loop-last-preserved c =
    sym (shuffle_step c.loop-last.last c.next_word.result c.loop-last.words _ c.loop-last.order _ (omega arith) c.next_word.ensures c.swap.ensures.after)
    ∙ c.loop-last.invariant

pub returns : goal.returns
returns c = sym (shuffle_end (c.loop-last.last - 1) c.loop-last.words c.loop-last.order (omega arith)) ∙ c.loop-last.invariant
