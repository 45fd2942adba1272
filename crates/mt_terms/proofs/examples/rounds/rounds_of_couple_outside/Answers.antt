use Rattle.std.proofs.Common.{refl}
use Rattle.mt_terms.proofs.examples.rounds.rounds_of_couple_outside.Goals as goal

pub returns : goal.returns
returns c = record { second = refl }
