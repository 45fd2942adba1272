use Rattle.mt_findings.proofs.AnswerFacts.{begins_as_plain_lem}
use Rattle.mt_findings.proofs.laws.begins_as_plain.Goals as goal

pub returns : goal.returns
returns c = begins_as_plain_lem
