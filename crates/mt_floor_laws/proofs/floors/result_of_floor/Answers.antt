use Rattle.mt_floor_laws.proofs.floors.result_of_floor.Goals as goal
use Rattle.mt_floor_laws.proofs.FloorRuns.{result_of_floor_lem}

pub returns : goal.returns
returns c = result_of_floor_lem
