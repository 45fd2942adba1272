use Rattle.mt_stability_laws.proofs.ExclusionLemmas.{best_is_unique_lem}
use Rattle.mt_stability_laws.proofs.singles.best_is_unique.Goals as goal

pub returns : goal.returns
returns c = best_is_unique_lem
