use Rattle.mt_file_laws.proofs.FaultFacts.{fault_ids_lem}
use Rattle.mt_file_laws.proofs.faults.fault_ids.Goals as goal

pub returns : goal.returns
returns c = fault_ids_lem
