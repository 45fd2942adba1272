-- Before each couple enters, all couples below its number have entered and nobody waits. What is left of the way leads
-- where the whole stage does.
use Rattle.std.proofs.Common.{◌≡◌, ◌∙◌, ◌∷◌, ◌-◌, ◌<◌, length, [], None, Result, Some, Ok, Err, IfErr, IsErrAnd, sym, ap, subst, arith}
use Rattle.mt_terms.specs.Market.{Market}
use Rattle.mt_terms.specs.Rounds.{after_rounds, stage as stage_of}
use Rattle.mt_terms.specs.declared.numbers.Agent.TheVariants.{Couple}
use Rattle.mt_round_laws.proofs.RoundsStage.{stage_is_stable_lem}
use Rattle.mt_assignment.specs.Assigned.{Assigned}
use Rattle.mt_entry.specs.Ended.{IfSpent, IsSpent}
use Rattle.mt_entry.specs.declared.ends.CoupleEnd.{CoupleEnd}
use Rattle.mt_entry.specs.declared.ends.CoupleEnd.TheVariants.{BudgetSpent, Memory}
use Rattle.mt_entry.specs.declared.ends.Spent.{Spent}
use Rattle.mt_rounds.proofs.EnteringFacts.{entering_all, entering_ends, entering_endless, entering_first, entering_more, entering_spent, leading_first, leading_more, none_enters, IsEntering, IsLeading}
use Rattle.mt_couples.proofs.entering.enter_all.Goals as goal

-- the error of a result is one of which this holds
error_is : {T E : Type 0} (P : E → Type 0) (r : Result T E) (e : E) → IsErrAnd r (λ y. y ≡ e) → P e → IfErr r P
error_is P (Ok x) e h holds = absurd h
error_is P (Err y) e h holds = subst P (sym h) holds

-- what is so of how far the rounds went says something else, too
spent_too : {P Q : Spent → Type 0} (e : CoupleEnd) → ((s : Spent) → P s → Q s) → IfSpent e P → IfSpent e Q
spent_too (BudgetSpent s) more h = more s h
spent_too Memory more h = h

pub returns-in_err-left-clause-spent : goal.returns-in_err-left-clause-spent
returns-in_err-left-clause-spent g c =
    let so_far = c.loop-number.invariant in
    let m = c.args.roster.now.market in
    let number = c.loop-number.number in
    let now = c.loop-number.stage.assignment in
    let room : number < length m.couples = omega (arith, c.couples-couples.ensures.count) in
    let end = c.in_err-left.field-0.0 in
    error_is (λ e. IfSpent e (λ _. stage_of m c.args.singles.places c.args.budget ≡ None)) c.from_residual-in_err-left.result end c.from_residual-in_err-left.ensures.1
    (spent_too end
    (λ s from. entering_spent m c.args.singles.places c.args.budget number now.places c.loop-number.left so_far.leads room
    (ap (λ x. after_rounds x number c.loop-number.left now.places (Couple number ∷ [])) (sym so_far.market) ∙ from.unsettled))
    c.in_err-left.ensures.spent)

pub returns-in_err-left-clause-far : goal.returns-in_err-left-clause-far
returns-in_err-left-clause-far g c =
    let so_far = c.loop-number.invariant in
    let m = c.args.roster.now.market in
    let number = c.loop-number.number in
    let now = c.loop-number.stage.assignment in
    let room : number < length m.couples = omega (arith, c.couples-couples.ensures.count) in
    let end = c.in_err-left.field-0.0 in
    error_is (λ e. IfSpent e (IsSpent m c.args.singles.places c.args.budget)) c.from_residual-in_err-left.result end c.from_residual-in_err-left.ensures.1
    (spent_too end
    (λ s from. record {
      entering =
          entering_ends m c.args.singles.places c.args.budget number now.places c.loop-number.left so_far.entering room
          (ap (λ x. after_rounds x number c.loop-number.left now.places (Couple number ∷ [])) (sym so_far.market) ∙ from.unsettled)
          ∙ ap Some (sym from.couple);
      within = from.within;
      all_made = from.all_made;
      endless = λ back.
          entering_endless m c.args.singles.places c.args.budget number now.places c.loop-number.left so_far.entering room
          (λ b. ap (λ x. after_rounds x number b now.places (Couple number ∷ [])) (sym so_far.market) ∙ from.endless back b);
    })
    c.in_err-left.ensures.spent)

pub let_in-requires-clause-couple : goal.let_in-requires-clause-couple
let_in-requires-clause-couple g c κs within =
    omega (arith, ap (λ (m : Market). length m.couples) c.loop-number.invariant.market, c.couples-couples.ensures.count)

pub loop-number-init : goal.loop-number-init
loop-number-init g c =
    let m = c.args.roster.now.market in
    let places = c.args.singles.places in
    let is = c.in_ok-stage.ensures.assignment in
    record {
      market = ap (λ (s : Assigned). s.market) is;
      between = c.in_ok-stage.ensures.entered;
      entering = subst (λ (s : Assigned). IsEntering m places 0 c.args.budget 0 s.places c.args.budget) (sym is) (entering_first m places 0 c.args.budget);
      leads = subst (λ (s : Assigned). IsLeading m places c.args.budget 0 s.places c.args.budget) (sym is) (leading_first m places c.args.budget);
    }

pub loop-number-preserved : goal.loop-number-preserved
loop-number-preserved g c =
    let so_far = c.loop-number.invariant in
    let m = c.args.roster.now.market in
    let places = c.args.singles.places in
    let number = c.loop-number.number in
    let now = c.loop-number.stage.assignment in
    let new = c.let_in.new.self in
    let settles = ap (λ x. after_rounds x number c.loop-number.left now.places (Couple number ∷ [])) (sym so_far.market) ∙ c.in_ok-left.ensures.settled in
    record {
      market = c.in_ok-left.ensures.market ∙ so_far.market;
      between = c.in_ok-left.ensures.entered;
      entering = entering_more m places 0 c.args.budget number now.places new.assignment.places c.loop-number.left c.in_ok-left.left so_far.entering settles
          c.in_ok-left.ensures.within;
      leads = leading_more m places c.args.budget number now.places new.assignment.places c.loop-number.left c.in_ok-left.left so_far.leads
          (omega (arith, c.couples-couples.ensures.count)) settles;
    }

pub returns-clause-entered : goal.returns-clause-entered
returns-clause-entered g c =
    let stage = c.loop-number.stage in
    entering_all c.args.roster.now.market c.args.singles.places c.args.budget c.loop-number.number stage.assignment.places c.loop-number.left c.loop-number.invariant.leads
    (omega (arith, c.couples-couples.ensures.count))
    ∙ ap (λ places. Some (places, c.args.budget - c.loop-number.left)) (sym c.into_match.ensures)

pub returns-clause-stable : goal.returns-clause-stable
returns-clause-stable g c = λ best.
    let places = c.into_match.result.places in
    stage_is_stable_lem c.args.roster.now.market c.couples-couples.ensures.registration.well_formed c.args.singles.places best c.args.budget (places, c.args.budget - c.loop-number.left) (returns-clause-entered g c)

pub returns-then-couples-eq0-clause-stable : goal.returns-then-couples-eq0-clause-stable
returns-then-couples-eq0-clause-stable g c = λ best.
    let places = c.args.singles.places in
    stage_is_stable_lem c.args.roster.now.market c.couples-couples.ensures.registration.well_formed places best c.args.budget (places, 0)
    (none_enters c.args.roster.now.market places c.args.budget (sym c.couples-couples.ensures.count ∙ c.if-couples-eq0.true))
