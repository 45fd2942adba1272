use Rattle.mt_statistics.proofs.SumFacts.{posts_add_up_lem}
use Rattle.mt_statistics.proofs.laws.posts_add_up.Goals as goal

pub returns : goal.returns
returns c = posts_add_up_lem
