use Rattle.mt_stability_laws.proofs.TakenLemmas.{first_alone_taken_lem, second_alone_taken_lem}
use Rattle.mt_stability_laws.proofs.taken.half_pair_taken.Goals as goal

pub returns-clause-first : goal.returns-clause-first
returns-clause-first c = first_alone_taken_lem

pub returns-clause-second : goal.returns-clause-second
returns-clause-second c = second_alone_taken_lem
