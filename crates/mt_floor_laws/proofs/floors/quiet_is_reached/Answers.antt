use Rattle.mt_floor_laws.proofs.floors.quiet_is_reached.Goals as goal
use Rattle.mt_floor_laws.proofs.FloorRuns.{quiet_is_reached_lem}

pub returns : goal.returns
returns c = quiet_is_reached_lem
