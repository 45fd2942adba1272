use Rattle.mt_explain.proofs.LawFacts.{stable_if_none_open_lem}
use Rattle.mt_explain.proofs.laws.stable_if_none_open.Goals as goal

pub returns : goal.returns
returns c = stable_if_none_open_lem
