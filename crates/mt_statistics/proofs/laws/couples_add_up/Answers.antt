use Rattle.mt_statistics.proofs.SumFacts.{couples_add_up_lem}
use Rattle.mt_statistics.proofs.laws.couples_add_up.Goals as goal

pub returns : goal.returns
returns c = couples_add_up_lem
