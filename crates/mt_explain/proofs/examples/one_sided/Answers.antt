use Rattle.std.proofs.Common.{refl}
use Rattle.mt_explain.proofs.examples.one_sided.Goals as goal

pub returns : goal.returns
returns c = record { first = refl; second = refl }
