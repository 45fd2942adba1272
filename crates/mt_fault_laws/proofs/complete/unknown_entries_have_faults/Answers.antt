use Rattle.mt_fault_laws.proofs.CompleteFacts.{unknown_entries_have_faults_lem}
use Rattle.mt_fault_laws.proofs.complete.unknown_entries_have_faults.Goals as goal

pub returns : goal.returns
returns c = unknown_entries_have_faults_lem
