use Rattle.mt_answer.proofs.AsideFacts.{aside_in_words_lem}
use Rattle.mt_answer.proofs.laws.aside_in_words.Goals as goal

pub returns : goal.returns
returns c = aside_in_words_lem
