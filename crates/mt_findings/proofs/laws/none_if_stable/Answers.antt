use Rattle.mt_findings.proofs.FindingFacts.{none_if_stable_lem}
use Rattle.mt_findings.proofs.laws.none_if_stable.Goals as goal

pub returns : goal.returns
returns c = none_if_stable_lem
