use Rattle.mt_order_laws.proofs.StableFacts.{stable_in_any_order_lem}
use Rattle.mt_order_laws.proofs.order.stable_in_any_order.Goals as goal

pub returns : goal.returns
returns c = stable_in_any_order_lem
