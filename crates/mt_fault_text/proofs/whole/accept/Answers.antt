use Rattle.std.proofs.Common.{inl}
use Rattle.mt_fault_text.proofs.AnswerFacts.{given_page}
use Rattle.mt_fault_text.proofs.whole.accept.Goals as goal

pub returns-clause-given : goal.returns-clause-given
returns-clause-given g c =
    inl (given_page c.send.result 0 _ _ _ _ _ c.is_ok.result c.is_ok.ensures.value c.in-Ok-push_accepted.ensures.text c.send.ensures.sends c.send.ensures.page c.send.ensures.breaks)
