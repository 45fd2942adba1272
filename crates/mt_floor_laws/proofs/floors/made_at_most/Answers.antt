use Rattle.mt_floor_laws.proofs.floors.made_at_most.Goals as goal
use Rattle.mt_floor_laws.proofs.FloorRuns.{made_at_most_lem}

pub returns : goal.returns
returns c = made_at_most_lem
