use Rattle.mt_answer.proofs.WayFacts.{one_answer_in_ways_lem}
use Rattle.mt_answer.proofs.laws.one_answer_in_ways.Goals as goal

pub returns : goal.returns
returns c = one_answer_in_ways_lem
