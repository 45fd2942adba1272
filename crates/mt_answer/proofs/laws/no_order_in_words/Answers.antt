use Rattle.mt_answer.proofs.WayFacts.{no_order_in_words_lem}
use Rattle.mt_answer.proofs.laws.no_order_in_words.Goals as goal

pub returns : goal.returns
returns c = no_order_in_words_lem
