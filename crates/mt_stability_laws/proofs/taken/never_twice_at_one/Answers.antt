use Rattle.mt_stability_laws.proofs.TakenLemmas.{never_twice_at_one_lem}
use Rattle.mt_stability_laws.proofs.taken.never_twice_at_one.Goals as goal

pub returns : goal.returns
returns c = never_twice_at_one_lem
