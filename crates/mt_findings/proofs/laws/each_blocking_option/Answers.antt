use Rattle.mt_findings.proofs.FindingFacts.{each_blocking_option_lem}
use Rattle.mt_findings.proofs.laws.each_blocking_option.Goals as goal

pub returns : goal.returns
returns c = each_blocking_option_lem
