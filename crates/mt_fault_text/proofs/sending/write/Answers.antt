use Rattle.mt_pages.proofs.SendingFacts.{breaks_after, sends_then}
use Rattle.mt_fault_text.proofs.PageFacts.{on_err_then, on_ok_then}
use Rattle.mt_fault_text.proofs.sending.write.Goals as goal

pub returns-clause-sends : goal.returns-clause-sends
returns-clause-sends g c = on_ok_then c.start.result (λ sends. sends_then _ _ _ _ _ _ _ _ c.in_ok-send.ensures.sends sends) c.start.ensures.sends

pub returns-clause-breaks : goal.returns-clause-breaks
returns-clause-breaks g c = on_err_then c.start.result (λ breaks. breaks_after _ _ _ _ _ _ _ c.in_ok-send.ensures.sends breaks) c.start.ensures.breaks
