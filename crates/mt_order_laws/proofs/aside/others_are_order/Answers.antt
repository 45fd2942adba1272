use Rattle.mt_order_laws.proofs.FormedFacts.{others_are_order_lem}
use Rattle.mt_order_laws.proofs.aside.others_are_order.Goals as goal

pub returns : goal.returns
returns c = others_are_order_lem
