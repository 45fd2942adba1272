use Rattle.mt_faults.proofs.PartsFacts.{tail_is}
use Rattle.mt_faults.proofs.placed.Placed.tail.Goals as goal

pub returns : goal.returns
returns c = tail_is c.next.result _ _ c.next.ensures.steps
