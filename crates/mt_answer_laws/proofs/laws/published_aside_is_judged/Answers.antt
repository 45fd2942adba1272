use Rattle.mt_answer_laws.proofs.CalledStable.{published_aside_is_judged_lem}
use Rattle.mt_answer_laws.proofs.laws.published_aside_is_judged.Goals as goal

pub returns : goal.returns
returns c = published_aside_is_judged_lem
