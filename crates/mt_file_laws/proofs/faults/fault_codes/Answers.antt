use Rattle.mt_file_laws.proofs.FaultFacts.{fault_codes_lem}
use Rattle.mt_file_laws.proofs.faults.fault_codes.Goals as goal

pub returns : goal.returns
returns c = fault_codes_lem
