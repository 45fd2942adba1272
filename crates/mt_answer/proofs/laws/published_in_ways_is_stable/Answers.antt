use Rattle.mt_answer.proofs.AsideFacts.{published_in_ways_is_stable_lem}
use Rattle.mt_answer.proofs.laws.published_in_ways_is_stable.Goals as goal

pub returns : goal.returns
returns c = published_in_ways_is_stable_lem
