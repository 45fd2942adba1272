use Rattle.std.proofs.Common.{refl}
use Rattle.mt_terms.proofs.examples.rounds.rounds_of_half_pair.Goals as goal

pub returns : goal.returns
returns c = record { rounds = refl; enough = refl; spent = refl }
