use Rattle.mt_order_laws.proofs.OrderFacts.{orders_are_orders_lem}
use Rattle.mt_order_laws.proofs.order.orders_are_orders.Goals as goal

pub returns : goal.returns
returns c = orders_are_orders_lem
