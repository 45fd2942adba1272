use Rattle.std.proofs.Common.{refl}
use Rattle.mt_terms.proofs.examples.rounds.rounds_of_own_seat.Goals as goal

pub returns : goal.returns
returns c = record { rounds = refl; spent = refl }
