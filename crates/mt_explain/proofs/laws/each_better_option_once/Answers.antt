use Rattle.mt_explain.proofs.LawFacts.{each_better_option_once_lem}
use Rattle.mt_explain.proofs.laws.each_better_option_once.Goals as goal

pub returns : goal.returns
returns c = each_better_option_once_lem
