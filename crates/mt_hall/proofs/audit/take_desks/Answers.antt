use Rattle.std.proofs.Common.{arith}
use Rattle.mt_hall.proofs.audit.take_desks.Goals as goal

pub desks-preserved : goal.desks-preserved
desks-preserved g c = grind arith
