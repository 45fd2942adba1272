use Rattle.std.proofs.Common.{◌≡◌, sym, ◌∙◌, arith}
use Rattle.mt_terms.specs.Market.{agent_of, couple_of}
use Rattle.mt_terms.specs.declared.numbers.Agent.TheVariants.{Single, Couple}
use Rattle.mt_terms.proofs.AgentFacts.{single_is_itself}
use Rattle.mt_verdict_laws.proofs.VerdictLemmas.{leads-Single, leads-first}
use Rattle.mt_verify.proofs.OptionFacts.{couple_is_there}
use Rattle.mt_verify.proofs.BlockingFacts.{led_and_blocks, led_not_blocking}
use Rattle.mt_verify.proofs.verifier.Verifier.blocker_led_by.Goals as goal

pub returns-in_err-option-in-Single : goal.returns-in_err-option-in-Single
returns-in_err-option-in-Single c =
    let self = c.args.self.now in
    let alone = single_is_itself self.roster.now.market c.args.applicant c.in-Single.field-0 (sym c.agent_of.ensures ∙ c.in-Single.is) in
    c.from_residual.ensures
    ∙ sym (led_not_blocking self.roster.now.market self.matched.now.places c.args.applicant (Single c.args.applicant) alone (sym c.first_program.ensures ∙ c.in_err-option-in-Single.was))

pub members-requires : goal.members-requires
members-requires c = couple_is_there c.args.self.now.roster.now.market c.args.applicant c.in-Couple.couple (sym c.agent_of.ensures ∙ c.in-Couple.is)

pub first_pair-requires : goal.first_pair-requires
first_pair-requires c = couple_is_there c.args.self.now.roster.now.market c.args.applicant c.in-Couple.couple (sym c.agent_of.ensures ∙ c.in-Couple.is)

pub returns-in_err-option-in-Couple : goal.returns-in_err-option-in-Couple
returns-in_err-option-in-Couple c =
    let self = c.args.self.now in
    c.from_residual-in_err-option-in-Couple.ensures
    ∙ sym (led_not_blocking self.roster.now.market self.matched.now.places c.args.applicant (Couple c.in-Couple.couple) (sym c.agent_of.ensures ∙ c.in-Couple.is)
    (sym c.first_pair.ensures ∙ c.in_err-option-in-Couple.was))

pub returns-in_ok-option-in-Single : goal.returns-in_ok-option-in-Single
returns-in_ok-option-in-Single c =
    let self = c.args.self.now in
    let alone = single_is_itself self.roster.now.market c.args.applicant c.in-Single.field-0 (sym c.agent_of.ensures ∙ c.in-Single.is) in
    sym (led_and_blocks self.roster.now.market self.matched.now.places c.args.applicant (Single c.args.applicant) alone
    (leads-Single self.roster.now.market c.args.applicant alone) c.in_ok-option-in-Single.option (sym c.in_ok-option-in-Single.ensures))

pub returns-in_ok-option-in-Couple : goal.returns-in_ok-option-in-Couple
returns-in_ok-option-in-Couple c =
    let self = c.args.self.now in
    let is : agent_of self.roster.now.market c.args.applicant ≡ Couple c.in-Couple.couple = sym c.agent_of.ensures ∙ c.in-Couple.is in
    let first : c.args.applicant ≡ (couple_of self.roster.now.market c.in-Couple.couple).first = omega arith in
    sym (led_and_blocks self.roster.now.market self.matched.now.places c.args.applicant (Couple c.in-Couple.couple) is
    (leads-first self.roster.now.market c.in-Couple.couple c.args.applicant is first) c.in_ok-option-in-Couple.option (sym c.in_ok-option-in-Couple.ensures))
