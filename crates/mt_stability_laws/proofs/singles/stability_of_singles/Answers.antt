use Rattle.mt_stability_laws.proofs.SinglesFacts.{stability_of_singles_lem}
use Rattle.mt_stability_laws.proofs.singles.stability_of_singles.Goals as goal

pub returns : goal.returns
returns c = stability_of_singles_lem
