use Rattle.mt_stability_laws.proofs.ExclusionLemmas.{best_is_at_least_lem}
use Rattle.mt_stability_laws.proofs.singles.best_is_at_least.Goals as goal

pub returns : goal.returns
returns c = best_is_at_least_lem
