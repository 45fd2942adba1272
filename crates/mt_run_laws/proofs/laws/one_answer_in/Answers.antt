use Rattle.mt_run_laws.proofs.WayFacts.{one_answer_in_lem}
use Rattle.mt_run_laws.proofs.laws.one_answer_in.Goals as goal

pub returns : goal.returns
returns c = one_answer_in_lem
