use Rattle.mt_verdict_laws.proofs.VerdictLemmas.{stable_verdict_lem}
use Rattle.mt_verdict_laws.proofs.verdict.stable_verdict.Goals as goal

pub returns : goal.returns
returns c = stable_verdict_lem
