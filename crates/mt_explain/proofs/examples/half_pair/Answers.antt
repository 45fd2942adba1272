use Rattle.std.proofs.Common.{refl}
use Rattle.mt_explain.proofs.examples.half_pair.Goals as goal

pub returns : goal.returns
returns c = record { couple = refl; held = refl }
