-- At each turn the first others have entered, and those that are set aside come after the others in the order.
use Rattle.std.proofs.Common.{◌∙◌, ◌-◌, ◌<◌, ◌≤◌, [], ◌∷◌, ◌++◌, ap, arith, length, subst, sym}
use Rattle.std.proofs.lemmas.List.{length-map}
use Rattle.mt_terms.specs.Market.{Registered, couple_of}
use Rattle.mt_terms.specs.Stability.{fits}
use Rattle.mt_ranks.specs.Ranked.{ranked_of}
use Rattle.mt_order_laws.specs.Reordered.{reordered}
use Rattle.mt_order_laws.proofs.FormedFacts.{order_of_some}
use Rattle.mt_order_laws.proofs.OrderLists.{length_below}
use Rattle.mt_orders.proofs.GoingOnFacts.{all_aside, first_turn, fits_in_turn, order_of_turn, others_many, turn_leads, turn_stuck, turns_done, IsTurn}
use Rattle.mt_orders.proofs.MarketFacts.{ranks_in_any_order_lem}
use Rattle.mt_orders.proofs.without.enter_aside.Goals as goal

pub turns-init : goal.turns-init
turns-init g c =
    let m = c.args.roster.now.market in
    let best = c.args.singles.now.places in
    let xs = c.in_ok-order.order.items in
    let none = c.new-aside.result.items in
    record {
      turn = subst (λ places. IsTurn m best c.args.budget xs none 0 places c.args.budget) (sym c.in_ok-matched.ensures)
          (first_turn m c.is_of_a_file.ensures.well_formed best c.requires c.args.budget c.couples.result xs none c.new-aside.ensures.items c.in_ok-order.ensures c.couples.ensures.count);
      many = ap length c.in_ok-order.ensures ∙ length_below c.couples.result ∙ c.couples.ensures.count;
    }

pub reordered-requires : goal.reordered-requires
reordered-requires g c =
    let m = c.args.roster.now.market in
    let t = c.turns.invariant.turn in
    let o = order_of_turn m c.deref.result.now c.turns.aside.items t.some (c.deref.ensures.value ∙ t.order_is) in
    order_of_some m [] c.deref.result.now o

pub enter_from-requires-clause-market : goal.enter_from-requires-clause-market
enter_from-requires-clause-market g c =
    let m = c.args.roster.now.market in
    let wf = c.is_of_a_file.ensures.well_formed in
    let t = c.turns.invariant.turn in
    let o = order_of_turn m c.deref.result.now c.turns.aside.items t.some (c.deref.ensures.value ∙ t.order_is) in
    let places = c.turns.reached.matched.places in
    record {
      ranks = c.in_ok-ranks.ensures ∙ sym (ranks_in_any_order_lem m c.deref.result.now wf o) ∙ ap (λ (r : Registered). ranked_of r.market) (sym c.in_ok-market.ensures);
      fitting = ap (λ (r : Registered). fits r.market places) c.in_ok-market.ensures ∙ fits_in_turn m wf c.deref.result.now o places ∙ t.fitting;
    }

pub overflow_sub-others : goal.overflow_sub-others
overflow_sub-others g c =
    omega (arith, others_many c.args.roster.now.market c.turns.order.items c.turns.aside.items c.turns.invariant.turn.order_is)

pub enter_from-requires-clause-order : goal.enter_from-requires-clause-order
enter_from-requires-clause-order g c =
    let t = c.turns.invariant.turn in
    omega (arith, others_many c.args.roster.now.market c.turns.order.items c.turns.aside.items t.order_is, t.low)

pub enter_from-requires-clause-couples : goal.enter_from-requires-clause-couples
enter_from-requires-clause-couples g c =
    let m = c.args.roster.now.market in
    omega (
      arith,
      ap (λ (r : Registered). length r.market.couples) c.in_ok-market.ensures,
      length-map c.deref.result.now (couple_of m),
      ap length c.deref.ensures.value,
    )

pub returns-then-place-others-clause-aside : goal.returns-then-place-others-clause-aside
returns-then-place-others-clause-aside g c =
    let m = c.args.roster.now.market in
    let wf = c.is_of_a_file.ensures.well_formed in
    let order = c.turns.order.items in
    let aside = c.turns.aside.items in
    let r = c.in_ok-reached.reached in
    let same = ap (λ (x : Registered). x.market) c.in_ok-market.ensures ∙ ap (λ xs. reordered xs m) c.deref.ensures.value in
    let high : r.entered ≤ length order - length aside = omega (arith, c.in_ok-reached.ensures.within, c.len.ensures, c.len-in-turns.ensures) in
    let t = turn_leads m wf c.args.singles.now.places c.requires c.args.budget order aside c.in_ok-market.market.market c.turns.reached r same c.turns.invariant.turn
    c.in_ok-reached.ensures.leads high c.in_ok-reached.ensures.fits in
    all_aside m wf c.args.singles.now.places c.requires c.args.budget order aside r.entered r.matched.places r.left t
    (omega (arith, c.if-place-others.true, c.len.ensures, c.len-in-turns.ensures, others_many m order aside t.order_is))

pub returns-then-place-others-clause-ends : goal.returns-then-place-others-clause-ends
returns-then-place-others-clause-ends g c =
    let m = c.args.roster.now.market in
    let wf = c.is_of_a_file.ensures.well_formed in
    let order = c.turns.order.items in
    let aside = c.turns.aside.items in
    let r = c.in_ok-reached.reached in
    let same = ap (λ (x : Registered). x.market) c.in_ok-market.ensures ∙ ap (λ xs. reordered xs m) c.deref.ensures.value in
    let high : r.entered ≤ length order - length aside = omega (arith, c.in_ok-reached.ensures.within, c.len.ensures, c.len-in-turns.ensures) in
    let t = turn_leads m wf c.args.singles.now.places c.requires c.args.budget order aside c.in_ok-market.market.market c.turns.reached r same c.turns.invariant.turn
    c.in_ok-reached.ensures.leads high c.in_ok-reached.ensures.fits in
    record {
      rounds = c.args.budget - r.left;
      ends = turns_done m wf c.args.singles.now.places c.requires c.args.budget order aside r.entered r.matched.places r.left t
          (omega (arith, c.if-place-others.true, c.len.ensures, c.len-in-turns.ensures, others_many m order aside t.order_is));
    }

pub remove-couple-requires : goal.remove-couple-requires
remove-couple-requires g c =
    omega (
      arith,
      others_many c.args.roster.now.market c.turns.order.items c.turns.aside.items c.turns.invariant.turn.order_is,
      c.in_ok-reached.ensures.within,
      c.len.ensures,
      c.len-in-turns.ensures,
      c.if-place-others.false,
    )

pub turns-preserved : goal.turns-preserved
turns-preserved g c =
    let m = c.args.roster.now.market in
    let wf = c.is_of_a_file.ensures.well_formed in
    let order = c.turns.order.items in
    let aside = c.turns.aside.items in
    let r = c.in_ok-reached.reached in
    let same = ap (λ (x : Registered). x.market) c.in_ok-market.ensures ∙ ap (λ xs. reordered xs m) c.deref.ensures.value in
    let high : r.entered ≤ length order - length aside = omega (arith, c.in_ok-reached.ensures.within, c.len.ensures, c.len-in-turns.ensures) in
    let t = turn_leads m wf c.args.singles.now.places c.requires c.args.budget order aside c.in_ok-market.market.market c.turns.reached r same c.turns.invariant.turn
    c.in_ok-reached.ensures.leads high c.in_ok-reached.ensures.fits in
    let among : r.entered < c.len.result - c.len-in-turns.result = omega (arith, c.in_ok-reached.ensures.within, c.if-place-others.false) in
    let low : r.entered < length order - length aside = omega (arith, among, c.len.ensures, c.len-in-turns.ensures) in
    record {
      turn = turn_stuck m wf c.args.singles.now.places c.requires c.args.budget order aside c.in_ok-market.market.market r _ _ c.remove-couple.result same t low (c.in_ok-reached.ensures.stuck among) c.remove-couple.ensures.value
          (c.in_ok-push.ensures.items ∙ ap (λ xs. xs ++ c.remove-couple.result ∷ []) c.remove-couple.ensures.items) c.in_ok-push-2.ensures.items;
      many = omega (arith, c.remove-couple.ensures.len, c.in_ok-push.ensures.len, c.turns.invariant.many);
    }

pub turns-smaller : goal.turns-smaller
turns-smaller g c =
    omega (
      arith,
      c.remove-couple.ensures.len,
      c.in_ok-push.ensures.len,
      c.in_ok-push-2.ensures.len,
      c.in_ok-reached.ensures.within,
      c.len.ensures,
      c.len-in-turns.ensures,
      c.if-place-others.false,
    )
