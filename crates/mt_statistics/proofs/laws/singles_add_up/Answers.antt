use Rattle.mt_statistics.proofs.SumFacts.{singles_add_up_lem}
use Rattle.mt_statistics.proofs.laws.singles_add_up.Goals as goal

pub returns : goal.returns
returns c = singles_add_up_lem
