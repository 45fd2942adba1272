use Rattle.std.proofs.Common.{sym, ◌∙◌, arith, length}
use Rattle.mt_terms.specs.Verdict.{is_over}
use Rattle.mt_verify.proofs.FindFacts.{find_first, find_none}
use Rattle.mt_verify.proofs.verifier.Verifier.first_over.Goals as goal

pub returns-then-is_over : goal.returns-then-is_over
returns-then-is_over c =
    let self = c.args.self.now in
    sym (find_first (is_over self.roster.now.market self.matched.now.places) (length self.roster.now.market.programs) c.loop-number.number
    (omega (arith, c.programs-number-end.ensures.count)) c.loop-number.invariant (sym c.is_over.ensures ∙ c.if-is_over.true))

pub returns : goal.returns
returns c =
    let self = c.args.self.now in
    sym (find_none (is_over self.roster.now.market self.matched.now.places) (length self.roster.now.market.programs)
    (λ p p_in. c.loop-number.invariant p (omega (arith, c.programs-number-end.ensures.count))))
