use Rattle.std.proofs.lemmas.Grind.{common_steps}
use Rattle.std.proofs.Common.{◌≡◌, length, get_or, None, sym, ap, ◌∙◌, arith}
use Rattle.mt_terms.specs.Market.{couple_of}
use Rattle.mt_terms.specs.Matching.{place_of, holds, couple_placement}
use Rattle.mt_terms.specs.Stability.{would_be_taken}
use Rattle.mt_verify.proofs.BlockingFacts.{element_read, holds_pair, taken_read, at_own_pair, at_taken_pair, no_pair_more, at_no_pair}
use Rattle.mt_verify.proofs.MarketFacts.{few_pairs}
use Rattle.mt_verify.proofs.verifier.Verifier.first_pair.Goals.{After-eq, After-takes_pair}
use Rattle.mt_verify.proofs.verifier.Verifier.first_pair.Goals as goal

-- the pair that was read, whether the couple has it, and whether it would be taken
pair_is : (c : After-eq) → c.pair-item.result ≡ get_or (couple_of c.args.self.now.roster.now.market c.args.couple).pairs c.loop-option.option (None, None)
pair_is c =
    let items = c.couple_list-pair-items in
    element_read items.result.now (couple_of c.args.self.now.roster.now.market c.args.couple).pairs c.loop-option.option c.pair-item.result (None, None) c.pair-item.is items.ensures c.loop-option-test.true

has_pair : (c : After-eq) → let couple = couple_of c.args.self.now.roster.now.market c.args.couple in
    holds c.args.self.now.matched.now.places (couple_placement couple.first couple.second c.pair-item.result) ≡ c.eq.result
has_pair c =
    let couple = couple_of c.args.self.now.roster.now.market c.args.couple in
    let places = c.args.self.now.matched.now.places in
    holds_pair places couple.first couple.second c.pair-item.result c.place.result c.place-2.result
    (c.place.ensures ∙ ap (place_of places) c.members-first.ensures.first) (c.place-2.ensures ∙ ap (place_of places) c.members-first.ensures.second)
    ∙ sym c.eq.ensures

is_taken : (c : After-takes_pair) → let couple = couple_of c.args.self.now.roster.now.market c.args.couple in
    would_be_taken c.args.self.now.roster.now.market c.args.self.now.matched.now.places (couple_placement couple.first couple.second c.pair-item.result) ≡ c.takes_pair.result
is_taken c =
    let self = c.args.self.now in
    let couple = couple_of self.roster.now.market c.args.couple in
    sym (taken_read self.roster.now.market self.matched.now.places c.members-first.result.0 c.members-first.result.1 couple.first couple.second c.pair-item.result c.members-first.ensures.first c.members-first.ensures.second)
    ∙ sym c.takes_pair.ensures

pub returns-then-eq : goal.returns-then-eq
returns-then-eq c =
    let b = (goal.at.returns-then-eq c).After-eq in
    sym (at_own_pair c.args.self.now.roster.now.market c.args.self.now.matched.now.places c.args.couple c.loop-option.option c.pair-item.result (omega (arith, ap length c.couple_list-pair-items.ensures))
    (pair_is b) c.loop-option.invariant (has_pair b ∙ c.if-eq.true))

pub returns-then-takes_pair : goal.returns-then-takes_pair
returns-then-takes_pair c =
    let b = (goal.at.returns-then-takes_pair c).After-eq in
    sym (at_taken_pair c.args.self.now.roster.now.market c.args.self.now.matched.now.places c.args.couple c.loop-option.option c.pair-item.result (omega (arith, ap length c.couple_list-pair-items.ensures))
    (pair_is b) c.loop-option.invariant (has_pair b ∙ c.if-eq.false) (is_taken (goal.at.returns-then-takes_pair c).After-takes_pair ∙ c.if-takes_pair.true))

pub overflow_cast-result : goal.overflow_cast-result
overflow_cast-result c =
    omega (arith, few_pairs c.args.self.now.roster.now c.args.self.now.is_registration c.args.couple c.requires, ap length c.couple_list-pair-items.ensures)

pub loop-option-preserved : goal.loop-option-preserved
loop-option-preserved c =
    let b = (goal.at.loop-option-preserved c).After-eq in
    no_pair_more c.args.self.now.roster.now.market c.args.self.now.matched.now.places c.args.couple c.loop-option.option c.pair-item.result
    (pair_is b) c.loop-option.invariant (has_pair b ∙ c.if-eq.false) (is_taken (goal.at.loop-option-preserved c).After-takes_pair ∙ c.if-takes_pair.false)

pub returns : goal.returns
returns c =
    let self = c.args.self.now in
    sym (at_no_pair self.roster.now.market self.matched.now.places c.args.couple
    (λ j less. c.loop-option.invariant j (omega (arith, ap length c.couple_list-pair-items.ensures))))

pub takes_pair-requires : goal.takes_pair-requires
takes_pair-requires c = grind (arith, common_steps)
