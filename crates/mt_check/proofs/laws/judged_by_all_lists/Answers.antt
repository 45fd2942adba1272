use Rattle.mt_check.proofs.AnswerFacts.{judged_by_all_lists_lem}
use Rattle.mt_check.proofs.laws.judged_by_all_lists.Goals as goal

pub returns : goal.returns
returns c = judged_by_all_lists_lem
