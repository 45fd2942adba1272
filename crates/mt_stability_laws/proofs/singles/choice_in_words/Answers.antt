use Rattle.mt_stability_laws.proofs.ChoiceLemmas.{choice_in_words_lem}
use Rattle.mt_stability_laws.proofs.singles.choice_in_words.Goals as goal

pub returns : goal.returns
returns c = choice_in_words_lem
