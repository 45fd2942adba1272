use Rattle.mt_statistics.proofs.LaterFacts.{later_pairs_add_up_lem}
use Rattle.mt_statistics.proofs.laws.later_pairs_add_up.Goals as goal

pub returns : goal.returns
returns c = later_pairs_add_up_lem
