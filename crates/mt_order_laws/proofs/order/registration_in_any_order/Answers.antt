use Rattle.mt_order_laws.proofs.RegistrationFacts.{registration_in_any_order_lem}
use Rattle.mt_order_laws.proofs.order.registration_in_any_order.Goals as goal

pub returns : goal.returns
returns c = registration_in_any_order_lem
