use Rattle.mt_hold.proofs.Lists.{held_is_choice}
use Rattle.mt_hold.proofs.laws.held_is_choice.Goals as goal

pub returns : goal.returns
returns c = held_is_choice
