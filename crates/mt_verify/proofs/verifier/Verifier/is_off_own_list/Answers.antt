use Rattle.std.proofs.Common.{◌≡◌, min, sym, ◌∙◌, arith}
use Rattle.mt_terms.specs.Market.{couple_of}
use Rattle.mt_verify.proofs.OptionFacts.{is_off-Single, is_off-Couple, couple_is_there}
use Rattle.mt_verify.proofs.verifier.Verifier.is_off_own_list.Goals as goal

pub members-first-requires : goal.members-first-requires
members-first-requires c = couple_is_there c.args.self.now.roster.now.market c.args.applicant c.in-Couple.couple (sym c.agent_of.ensures ∙ c.in-Couple.is)

pub couple_list-requires : goal.couple_list-requires
couple_list-requires c = couple_is_there c.args.self.now.roster.now.market c.args.applicant c.in-Couple.couple (sym c.agent_of.ensures ∙ c.in-Couple.is)

pub returns-in-Single : goal.returns-in-Single
returns-in-Single c =
    let self = c.args.self.now in
    rw (c.is_own_place.ensures, c.single_list.ensures, c.place.ensures)
    (sym (is_off-Single self.roster.now.market self.matched.now.places c.args.applicant c.in-Single.field-0 (sym c.agent_of.ensures ∙ c.in-Single.is)))

pub returns-then-applicant-min : goal.returns-then-applicant-min
returns-then-applicant-min c =
    let self = c.args.self.now in
    let couple = couple_of self.roster.now.market c.in-Couple.couple in
    let low : c.args.applicant ≡ min couple.first couple.second = omega arith in
    rw (c.is_own_pair.ensures, c.couple_list.ensures, c.place-then-applicant-min.ensures, c.place-then-applicant-min-2.ensures, c.members-first.ensures.first, c.members-first.ensures.second)
    (sym (is_off-Couple self.roster.now.market self.matched.now.places c.args.applicant c.in-Couple.couple (sym c.agent_of.ensures ∙ c.in-Couple.is) low))
