use Rattle.mt_stability_laws.proofs.TakenLemmas.{single_taken_lem}
use Rattle.mt_stability_laws.proofs.taken.single_taken.Goals as goal

pub returns : goal.returns
returns c = single_taken_lem
