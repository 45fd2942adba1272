use Rattle.std.proofs.Common.{◌≡◌, ◌∙◌, subst}
use Rattle.mt_terms.specs.declared.codes.TheConstants.{OUT_OF_MEMORY}
use Rattle.mt_pages.specs.Sending.{Sends}
use Rattle.mt_fault_text.specs.Answer.{refusal}
use Rattle.mt_fault_text.proofs.PageFacts.{ended_err, ended_ok}
use Rattle.mt_fault_text.proofs.whole.cut_short.Goals as goal

pub returns-clause-sends : goal.returns-clause-sends
returns-clause-sends g c =
    let is : c.as_bytes.result.now ≡ refusal OUT_OF_MEMORY = c.as_bytes.ensures ∙ c.refused-line.ensures in
    ended_ok c.send.result _ _ _ _ _ _ (refusal OUT_OF_MEMORY) (subst (Sends _ _ _ _) is c.in_ok-write.ensures.sends) c.send.ensures.sends c.send.ensures.page

pub returns-clause-breaks : goal.returns-clause-breaks
returns-clause-breaks g c =
    let is : c.as_bytes.result.now ≡ refusal OUT_OF_MEMORY = c.as_bytes.ensures ∙ c.refused-line.ensures in
    ended_err c.send.result _ _ _ _ _ (refusal OUT_OF_MEMORY) (subst (Sends _ _ _ _) is c.in_ok-write.ensures.sends) c.send.ensures.breaks
