use Rattle.mt_floor_laws.proofs.FloorRuns.{chain_has_strict_end}
use Rattle.mt_floor_laws.proofs.LegalBestLemmas.{legal_floor_best}
use Rattle.mt_floor_laws.proofs.rural_law.legal_best.Goals as goal

pub returns-clause-law : goal.returns-clause-law
returns-clause-law c = legal_floor_best

pub returns-clause-example : goal.returns-clause-example
returns-clause-example c = chain_has_strict_end
