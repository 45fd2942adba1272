use Rattle.mt_applicant_laws.proofs.ListChanges.{longer_list_keeps_best_lem}
use Rattle.mt_applicant_laws.proofs.laws.longer_list_keeps_best.Goals as goal

pub returns : goal.returns
returns c = longer_list_keeps_best_lem
