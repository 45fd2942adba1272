use Rattle.mt_order_laws.proofs.FormedFacts.{none_aside_lem}
use Rattle.mt_order_laws.proofs.aside.none_aside.Goals as goal

pub returns : goal.returns
returns c = none_aside_lem
