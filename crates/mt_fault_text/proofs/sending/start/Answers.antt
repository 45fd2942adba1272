use Rattle.mt_fault_text.proofs.PageFacts.{broke_at_once}
use Rattle.mt_fault_text.proofs.sending.start.Goals as goal

pub returns-else-put_all-clause-breaks : goal.returns-else-put_all-clause-breaks
returns-else-put_all-clause-breaks g c = broke_at_once _ _ _ _ _ _ c.requires.page c.put_all.ensures.written
