use Rattle.mt_floor_laws.proofs.floors.events_keep_strict.Goals as goal
use Rattle.mt_floor_laws.proofs.FloorEvents.{events_keep_strict_lem}

pub returns : goal.returns
returns c = events_keep_strict_lem
