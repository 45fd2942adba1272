use Rattle.mt_floor_laws.proofs.FloorBest.{strict_best_lem}
use Rattle.mt_floor_laws.proofs.FloorRuns.{chain_has_strict_end}
use Rattle.mt_floor_laws.proofs.floors.strict_best.Goals as goal

pub returns-clause-law : goal.returns-clause-law
returns-clause-law c = strict_best_lem

pub returns-clause-example : goal.returns-clause-example
returns-clause-example c = chain_has_strict_end
