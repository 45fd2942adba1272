use Rattle.mt_order_laws.proofs.EndFacts.{others_end_lem}
use Rattle.mt_order_laws.proofs.aside.others_end.Goals as goal

pub returns : goal.returns
returns c = others_end_lem
