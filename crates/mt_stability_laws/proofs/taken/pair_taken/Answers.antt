use Rattle.mt_stability_laws.proofs.TakenLemmas.{pair_taken_lem}
use Rattle.mt_stability_laws.proofs.taken.pair_taken.Goals as goal

pub returns : goal.returns
returns c = pair_taken_lem
