use Rattle.std.proofs.Common.{refl}
use Rattle.mt_terms.proofs.examples.rounds.rounds_of_three_couples.Goals as goal

pub returns : goal.returns
returns c = record { first = refl; second = refl; third = refl; enough = refl; spent = refl; half = refl; half_spent = refl }
