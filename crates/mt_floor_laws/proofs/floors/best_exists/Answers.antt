use Rattle.mt_floor_laws.proofs.floors.best_exists.Goals as goal
use Rattle.mt_floor_laws.proofs.FloorRuns.{best_exists_lem}

pub returns : goal.returns
returns c = best_exists_lem
