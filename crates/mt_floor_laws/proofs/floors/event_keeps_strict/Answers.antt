use Rattle.mt_floor_laws.proofs.floors.event_keeps_strict.Goals as goal
use Rattle.mt_floor_laws.proofs.FloorEvents.{event_keeps_strict_lem}

pub returns : goal.returns
returns c = event_keeps_strict_lem
