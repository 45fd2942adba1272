use Rattle.mt_hold.proofs.Lists.{receive_adds_one}
use Rattle.mt_hold.proofs.laws.receive_adds_one.Goals as goal

pub returns : goal.returns
returns c = receive_adds_one
