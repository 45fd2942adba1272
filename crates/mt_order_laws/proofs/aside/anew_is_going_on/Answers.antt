use Rattle.mt_order_laws.proofs.EntryFacts.{anew_is_going_on_lem}
use Rattle.mt_order_laws.proofs.aside.anew_is_going_on.Goals as goal

pub returns : goal.returns
returns c = anew_is_going_on_lem
