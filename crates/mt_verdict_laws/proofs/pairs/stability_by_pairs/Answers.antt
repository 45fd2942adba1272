use Rattle.mt_verdict_laws.proofs.BlockingPairLemmas.{stability_by_pairs_lem}
use Rattle.mt_verdict_laws.proofs.pairs.stability_by_pairs.Goals as goal

pub returns : goal.returns
returns c = stability_by_pairs_lem
