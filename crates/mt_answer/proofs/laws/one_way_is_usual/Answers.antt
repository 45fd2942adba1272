use Rattle.mt_answer.proofs.WayFacts.{one_way_is_usual_lem}
use Rattle.mt_answer.proofs.laws.one_way_is_usual.Goals as goal

pub returns : goal.returns
returns c = one_way_is_usual_lem
