use Rattle.mt_orders.proofs.FewestFacts.{one_order_aside_lem}
use Rattle.mt_orders.proofs.laws.one_order_aside.Goals as goal

pub returns : goal.returns
returns c = one_order_aside_lem
