use Rattle.mt_stability_laws.proofs.ExclusionLemmas.{exclusion_by_quota_lem}
use Rattle.mt_stability_laws.proofs.singles.exclusion_by_quota.Goals as goal

pub returns : goal.returns
returns c = exclusion_by_quota_lem
