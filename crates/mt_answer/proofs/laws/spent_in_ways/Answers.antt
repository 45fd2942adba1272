use Rattle.mt_answer.proofs.WayFacts.{spent_in_ways_lem}
use Rattle.mt_answer.proofs.laws.spent_in_ways.Goals as goal

pub returns : goal.returns
returns c = spent_in_ways_lem
