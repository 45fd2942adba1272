use Rattle.mt_stability_laws.proofs.ChoiceLemmas.{none_comes_back_lem}
use Rattle.mt_stability_laws.proofs.singles.none_comes_back.Goals as goal

pub returns : goal.returns
returns c = none_comes_back_lem
