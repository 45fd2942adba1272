use Rattle.mt_hold.proofs.Lists.{count_is_size}
use Rattle.mt_hold.proofs.laws.count_is_size.Goals as goal

pub returns : goal.returns
returns c = count_is_size
