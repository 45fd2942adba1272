use Rattle.mt_order_laws.proofs.FormedFacts.{well_formed_in_any_order_lem}
use Rattle.mt_order_laws.proofs.order.well_formed_in_any_order.Goals as goal

pub returns : goal.returns
returns c = well_formed_in_any_order_lem
