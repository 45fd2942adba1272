use Rattle.std.proofs.Common.{refl}
use Rattle.mt_terms.proofs.examples.stability.couple_shut_out.Goals as goal

pub returns : goal.returns
returns c = record { single_alone = refl; half_placed = refl; with_half_pair = refl }
