use Rattle.mt_fault_laws.proofs.CompleteFacts.{repeated_entries_have_faults_lem}
use Rattle.mt_fault_laws.proofs.complete.repeated_entries_have_faults.Goals as goal

pub returns : goal.returns
returns c = repeated_entries_have_faults_lem
