use Rattle.mt_hold.proofs.Lists.{count_is_members}
use Rattle.mt_hold.proofs.laws.count_is_members.Goals as goal

pub returns : goal.returns
returns c = count_is_members
