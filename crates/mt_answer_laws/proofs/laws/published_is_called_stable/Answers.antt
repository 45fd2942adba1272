use Rattle.mt_answer_laws.proofs.CalledStable.{published_is_called_stable_lem, published_is_read_back_lem}
use Rattle.mt_answer_laws.proofs.laws.published_is_called_stable.Goals as goal

pub returns-clause-law : goal.returns-clause-law
returns-clause-law c = published_is_called_stable_lem

pub returns-clause-read_back : goal.returns-clause-read_back
returns-clause-read_back c = published_is_read_back_lem
