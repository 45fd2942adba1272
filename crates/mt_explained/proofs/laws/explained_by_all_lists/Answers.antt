use Rattle.mt_explained.proofs.AnswerFacts.{explained_by_all_lists_lem}
use Rattle.mt_explained.proofs.laws.explained_by_all_lists.Goals as goal

pub returns : goal.returns
returns c = explained_by_all_lists_lem
