use Rattle.mt_run_laws.proofs.HeadlineLemmas.{published_is_stable_lem}
use Rattle.mt_run_laws.proofs.laws.published_is_stable.Goals as goal

pub returns : goal.returns
returns c = published_is_stable_lem
