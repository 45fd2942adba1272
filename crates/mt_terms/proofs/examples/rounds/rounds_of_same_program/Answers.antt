use Rattle.std.proofs.Common.{refl}
use Rattle.mt_terms.proofs.examples.rounds.rounds_of_same_program.Goals as goal

pub returns : goal.returns
returns c = record { between = refl; last = refl; last_stage = refl; last_spent = refl; elsewhere = refl }
