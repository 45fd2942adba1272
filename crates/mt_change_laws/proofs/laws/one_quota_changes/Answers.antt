use Rattle.mt_change_laws.proofs.FileChanges.{one_quota_changes_lem}
use Rattle.mt_change_laws.proofs.laws.one_quota_changes.Goals as goal

pub returns : goal.returns
returns c = one_quota_changes_lem
