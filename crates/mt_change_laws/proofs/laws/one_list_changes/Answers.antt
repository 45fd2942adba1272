use Rattle.mt_change_laws.proofs.FileChanges.{one_list_changes_lem}
use Rattle.mt_change_laws.proofs.laws.one_list_changes.Goals as goal

pub returns : goal.returns
returns c = one_list_changes_lem
