use Rattle.mt_stability_laws.proofs.ChoiceLemmas.{growing_choice_lem}
use Rattle.mt_stability_laws.proofs.singles.growing_choice.Goals as goal

pub returns : goal.returns
returns c = growing_choice_lem
