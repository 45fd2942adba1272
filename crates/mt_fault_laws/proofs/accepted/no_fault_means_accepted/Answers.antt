use Rattle.mt_fault_laws.proofs.AcceptedFacts.{no_fault_means_accepted_lem}
use Rattle.mt_fault_laws.proofs.accepted.no_fault_means_accepted.Goals as goal

pub returns : goal.returns
returns c = no_fault_means_accepted_lem
