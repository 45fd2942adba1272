use Rattle.mt_orders.proofs.FewestFacts.{fewest_in_words_lem}
use Rattle.mt_orders.proofs.laws.fewest_in_words.Goals as goal

pub returns : goal.returns
returns c = fewest_in_words_lem
