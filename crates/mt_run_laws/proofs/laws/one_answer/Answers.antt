use Rattle.mt_run_laws.proofs.AnswerLemmas.{one_answer_lem}
use Rattle.mt_run_laws.proofs.laws.one_answer.Goals as goal

pub returns : goal.returns
returns c = one_answer_lem
