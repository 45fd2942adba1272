use Rattle.mt_statistics.proofs.SumFacts.{programs_add_up_lem}
use Rattle.mt_statistics.proofs.laws.programs_add_up.Goals as goal

pub returns : goal.returns
returns c = programs_add_up_lem
