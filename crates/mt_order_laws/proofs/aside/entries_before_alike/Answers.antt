use Rattle.mt_order_laws.proofs.EntryFacts.{entries_before_alike_lem}
use Rattle.mt_order_laws.proofs.aside.entries_before_alike.Goals as goal

pub returns : goal.returns
returns c = entries_before_alike_lem
