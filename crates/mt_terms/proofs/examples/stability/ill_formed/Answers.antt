use Rattle.std.proofs.Common.{refl}
use Rattle.mt_terms.proofs.examples.stability.ill_formed.Goals as goal

pub returns : goal.returns
returns c = record { repeat = refl; one_member = refl }
