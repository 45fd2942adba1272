use Rattle.std.proofs.Common.{◌≡◌, ◌∙◌, ap, length, subst, arith, sym}
use Rattle.mt_terms.specs.Best.{proposals}
use Rattle.mt_terms.proofs.BelowFacts.{length-map_below}
use Rattle.mt_answer.proofs.AsideFacts.{aside_are_couples_lem}
use Rattle.mt_answer.proofs.InWaysFacts.{aside_answers}
use Rattle.mt_order_laws.specs.Reordered.{IsOrderOfSome}
use Rattle.mt_orders.specs.Fewest.{fewest_order}
use Rattle.mt_answer.proofs.in_ways.answer_aside.Goals as goal

pub published_aside-requires-clause-received : goal.published_aside-requires-clause-received
published_aside-requires-clause-received g c =
    omega (
      arith,
      c.deref.ensures.len,
      ap length c.requires.proposals,
      length-map_below (proposals c.args.roster.now.market c.args.singles.now.matched.places) (length c.args.roster.now.market.programs),
    )

-- those that are set aside are couples of the market
pub published_aside-requires-clause-aside : goal.published_aside-requires-clause-aside
published_aside-requires-clause-aside g c =
    let same : c.deref-2.result.now ≡ c.in_ok-aside.aside.couples.items = c.deref-2.ensures.value in
    let m = c.args.roster.now.market in
    let best = c.args.singles.now.matched.places in
    let budget = c.args.tries.budget in
    let are = subst (IsOrderOfSome m) (sym (same ∙ c.in_ok-aside.ensures.fewest.couples))
    (aside_are_couples_lem m best budget (fewest_order m best budget c.args.tries.orders)) in
    are.within

pub returns-clause-text : goal.returns-clause-text
returns-clause-text g c =
    let told = rw (c.deref.ensures.value, c.deref-2.ensures.value) at c.in_ok-text.ensures in
    aside_answers c.args.roster.now c.args.singles.now.matched.places c.requires.best c.args.tries.budget c.args.tries.orders c.in_ok-aside.aside
    c.args.singles.now.proposals.items c.in_ok-text.text.items c.in_ok-aside.ensures.fewest c.requires.proposals told
