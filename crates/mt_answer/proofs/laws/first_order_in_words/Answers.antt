use Rattle.mt_answer.proofs.WayFacts.{first_order_in_words_lem}
use Rattle.mt_answer.proofs.laws.first_order_in_words.Goals as goal

pub returns : goal.returns
returns c = first_order_in_words_lem
