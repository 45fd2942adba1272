use Rattle.mt_fault_laws.proofs.AcceptedFacts.{named_fault_is_among_lem}
use Rattle.mt_fault_laws.proofs.accepted.named_fault_is_among.Goals as goal

pub returns : goal.returns
returns c = named_fault_is_among_lem
