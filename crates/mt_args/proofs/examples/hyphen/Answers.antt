use Rattle.std.proofs.Common.{refl}
use Rattle.clap.proofs.OnLiterals.{clap_on_literals}
use Rattle.mt_args.proofs.examples.hyphen.Goals as goal

pub returns : goal.returns
unfolding clap_on_literals
returns c = ((refl, refl, refl, refl), (refl, refl, refl, refl), (refl, refl, refl, refl))
