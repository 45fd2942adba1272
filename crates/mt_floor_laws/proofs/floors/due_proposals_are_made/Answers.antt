use Rattle.mt_floor_laws.proofs.floors.due_proposals_are_made.Goals as goal
use Rattle.mt_floor_laws.proofs.FloorRuns.{due_proposals_are_made_lem}

pub returns : goal.returns
returns c = due_proposals_are_made_lem
