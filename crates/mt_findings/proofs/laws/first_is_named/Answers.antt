use Rattle.mt_findings.proofs.FindingFacts.{first_is_named_lem}
use Rattle.mt_findings.proofs.laws.first_is_named.Goals as goal

pub returns : goal.returns
returns c = first_is_named_lem
