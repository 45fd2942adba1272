use Rattle.mt_args.proofs.laws.help_is_not_taken.Goals as goal
use Rattle.mt_args.proofs.Agreement.{command_agrees, not_at}

pub returns : goal.returns
returns c = λ words asks. not_at _ (command_agrees words) asks
