use Rattle.std.proofs.Common.{refl}
use Rattle.mt_terms.proofs.examples.stability.single_between.Goals as goal

pub returns : goal.returns
returns c = record { single_alone = refl; couple_alone = refl; all_three = refl; single_last = refl }
