use Rattle.std.proofs.Common.{refl}
use Rattle.clap.proofs.OnLiterals.{clap_on_literals}
use Rattle.mt_args.proofs.examples.many_ways.Goals as goal

pub returns : goal.returns
unfolding clap_on_literals
returns c = (refl, refl, refl)
