use Rattle.mt_floor_laws.proofs.floors.legal_from_passed.Goals as goal
use Rattle.mt_floor_laws.proofs.FloorEvents.{legal_from_passed_lem}

pub returns : goal.returns
returns c = legal_from_passed_lem
