use Rattle.mt_order_laws.proofs.EndFacts.{entering_in_words_lem}
use Rattle.mt_order_laws.proofs.aside.entering_in_words.Goals as goal

pub returns : goal.returns
returns c = entering_in_words_lem
