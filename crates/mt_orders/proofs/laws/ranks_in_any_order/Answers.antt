use Rattle.mt_orders.proofs.MarketFacts.{ranks_in_any_order_lem}
use Rattle.mt_orders.proofs.laws.ranks_in_any_order.Goals as goal

pub returns : goal.returns
returns c = ranks_in_any_order_lem
