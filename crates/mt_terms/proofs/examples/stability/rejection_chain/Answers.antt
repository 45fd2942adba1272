use Rattle.std.proofs.Common.{refl}
use Rattle.mt_terms.proofs.examples.stability.rejection_chain.Goals as goal

pub returns : goal.returns
returns c = record { stable_one = refl; first_wishes = refl; to_first = refl; to_second = refl }
