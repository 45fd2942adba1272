use Rattle.std.proofs.Common.{refl}
use Rattle.mt_explain.proofs.examples.single_between.Goals as goal

pub returns : goal.returns
returns c = record { couple = refl; none_open = refl }
