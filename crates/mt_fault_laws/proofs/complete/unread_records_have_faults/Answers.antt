use Rattle.mt_fault_laws.proofs.CompleteFacts.{unread_records_have_faults_lem}
use Rattle.mt_fault_laws.proofs.complete.unread_records_have_faults.Goals as goal

pub returns : goal.returns
returns c = unread_records_have_faults_lem
