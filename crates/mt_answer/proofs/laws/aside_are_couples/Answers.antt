use Rattle.mt_answer.proofs.AsideFacts.{aside_are_couples_lem}
use Rattle.mt_answer.proofs.laws.aside_are_couples.Goals as goal

pub returns : goal.returns
returns c = aside_are_couples_lem
