use Rattle.std.proofs.Common.{eq-eqb, arith}
use Rattle.mt_orders.proofs.ShuffleFacts.{shuffle_is}
use Rattle.mt_orders.proofs.numbered.order_of.Goals as goal

pub returns-then-number-eq1 : goal.returns-then-number-eq1
returns-then-number-eq1 c = rw (eq-eqb c.args.number 1 c.if-number-eq1.true) c.in_ok-order.ensures

pub returns : goal.returns
returns c =
    shuffle_is c.args.number c.args.couples c.in_ok-order.order.items c.deref_mut.result.now c.shuffle.new.order _ c.if-number-eq1.false c.in_ok-order.ensures
    c.deref_mut.ensures.value c.shuffle.ensures (omega arith) c.in_ok-order.order.ok.0
