use Rattle.mt_args.proofs.laws.refusal_is_exact.Goals as goal
use Rattle.mt_args.proofs.Agreement.{command_agrees, none_at, one_at}

pub returns : goal.returns
returns c = λ words. (none_at (command_agrees words), one_at (command_agrees words))
