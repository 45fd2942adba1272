use Rattle.mt_order_laws.proofs.FormedFacts.{well_formed_aside_lem}
use Rattle.mt_order_laws.proofs.aside.well_formed_aside.Goals as goal

pub returns : goal.returns
returns c = well_formed_aside_lem
