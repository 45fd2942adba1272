use Rattle.mt_fault_laws.proofs.SoFacts.{faults_are_so_lem}
use Rattle.mt_fault_laws.proofs.reasons.faults_are_so.Goals as goal

pub returns : goal.returns
returns c = faults_are_so_lem
