use Rattle.std.proofs.Common.{◌≡◌, ◌-◌, length}
use Rattle.mt_order_laws.specs.Orders.{generator_of, shuffled}
use Rattle.mt_orders.proofs.numbered.shuffle.Given as goal

abbrev pub invariant-loop-last : goal.invariant-loop-last
invariant-loop-last l = shuffled (l.last - 1) l.words l.order ≡ shuffled (length l.fn.order - 1) (generator_of l.number) l.fn.order
