use Rattle.mt_order_laws.proofs.RegistrationFacts.{registration_aside_lem}
use Rattle.mt_order_laws.proofs.aside.registration_aside.Goals as goal

pub returns : goal.returns
returns c = registration_aside_lem
