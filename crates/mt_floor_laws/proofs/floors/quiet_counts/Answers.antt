use Rattle.mt_floor_laws.proofs.floors.quiet_counts.Goals as goal
use Rattle.mt_floor_laws.proofs.FloorQuiet.{quiet_counts_lem}

pub returns : goal.returns
returns c = quiet_counts_lem
