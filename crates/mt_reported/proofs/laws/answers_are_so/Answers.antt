use Rattle.mt_reported.proofs.AnswerFacts.{answers_are_so_lem}
use Rattle.mt_reported.proofs.laws.answers_are_so.Goals as goal

pub returns : goal.returns
returns c = answers_are_so_lem
