use Rattle.mt_run_laws.proofs.WayFacts.{one_way_is_answer_lem}
use Rattle.mt_run_laws.proofs.laws.one_way_is_answer.Goals as goal

pub returns : goal.returns
returns c = one_way_is_answer_lem
