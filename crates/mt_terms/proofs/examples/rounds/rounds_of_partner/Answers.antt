use Rattle.std.proofs.Common.{refl}
use Rattle.mt_terms.proofs.examples.rounds.rounds_of_partner.Goals as goal

pub returns : goal.returns
returns c = record { first = refl; second = refl; enough = refl; spent = refl }
