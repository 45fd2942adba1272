use Rattle.mt_faults.proofs.PartsFacts.{head_is}
use Rattle.mt_faults.proofs.placed.Placed.head.Goals as goal

pub returns : goal.returns
returns c = head_is c.next.result _ _ c.next.ensures.steps
