use Rattle.mt_statistics.proofs.LaterFacts.{later_choices_add_up_lem}
use Rattle.mt_statistics.proofs.laws.later_choices_add_up.Goals as goal

pub returns : goal.returns
returns c = later_choices_add_up_lem
