use Rattle.mt_floor_laws.proofs.floors.due_at_most.Goals as goal
use Rattle.mt_floor_laws.proofs.FloorRuns.{due_at_most_lem}

pub returns : goal.returns
returns c = due_at_most_lem
