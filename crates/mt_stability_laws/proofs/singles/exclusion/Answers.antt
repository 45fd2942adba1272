use Rattle.mt_stability_laws.proofs.ExclusionLemmas.{exclusion_lem}
use Rattle.mt_stability_laws.proofs.singles.exclusion.Goals as goal

pub returns : goal.returns
returns c = exclusion_lem
