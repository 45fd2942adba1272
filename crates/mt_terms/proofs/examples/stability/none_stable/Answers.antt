use Rattle.std.proofs.Common.{refl}
use Rattle.mt_terms.proofs.examples.stability.none_stable.Goals as goal

pub returns : goal.returns
returns c = record { nobody = refl; single_first = refl; single_second = refl; couple_alone = refl }
