-- Before each couple enters, those from the first one up to it have entered and nobody waits. A copy of the match is what
-- they lead to, and it is the end if the rounds of the couple don't end.
use Rattle.std.proofs.Common.{◌≡◌, ◌∙◌, ℕ, ◌-◌, ◌∷◌, [], None, Some, ap, arith, length, subst, sym}
use Rattle.std.specs.List.{range_with_len}
use Rattle.mt_terms.specs.Market.{Market}
use Rattle.mt_terms.specs.Matching.{Places}
use Rattle.mt_terms.specs.Stability.{fits}
use Rattle.mt_terms.specs.Rounds.{after_entries, after_rounds}
use Rattle.mt_terms.specs.declared.numbers.Agent.TheVariants.{Couple}
use Rattle.mt_assignment.specs.Assigned.{Assigned}
use Rattle.mt_entry.specs.Ended.{IfSpent}
use Rattle.mt_couples.specs.Ended.{IsSpentEntering}
use Rattle.mt_entry.specs.declared.ends.CoupleEnd.{CoupleEnd}
use Rattle.mt_entry.specs.declared.ends.CoupleEnd.TheVariants.{BudgetSpent}
use Rattle.mt_entry.specs.declared.ends.Spent.{Spent}
use Rattle.mt_couples.specs.declared.rounds.Stage.{Stage}
use Rattle.mt_rounds.proofs.EnteringFacts.{entering_first, entering_more, IsEntering}
use Rattle.mt_couples.proofs.entering.enter_from.Goals as goal

-- the rounds of the couple don't end, as a market has them
stuck_in : (m : Market) (t : Stage) (k left : ℕ) (end : CoupleEnd) {s : Spent} (places : Places) → end ≡ BudgetSpent s
    → IfSpent end (IsSpentEntering t k left left) → t.assignment.market ≡ m → places ≡ t.assignment.places
    → after_rounds m k left places (Couple k ∷ []) ≡ None
stuck_in m t k left end places is h market copy =
    ap (λ x. after_rounds x k left places (Couple k ∷ [])) (sym market)
    ∙ ap (λ x. after_rounds t.assignment.market k left x (Couple k ∷ [])) copy
    ∙ (subst (λ e. IfSpent e (IsSpentEntering t k left left)) is h).unsettled

pub let_in-requires-clause-couple : goal.let_in-requires-clause-couple
let_in-requires-clause-couple g c κs within =
    omega (arith, ap (λ (m : Market). length m.couples) c.loop-number.invariant.market, c.requires.couples)

pub loop-number-init : goal.loop-number-init
loop-number-init g c =
    let m = c.args.roster.now.market in
    let places = c.args.start.matched.places in
    let from = c.args.start.entered in
    let left = c.args.start.left in
    let is = c.in_ok-stage.ensures.assignment in
    record {
      market = ap (λ (s : Assigned). s.market) is;
      between = c.in_ok-stage.ensures.entered;
      entering = subst (λ (s : Assigned). IsEntering m places from left from s.places left) (sym is) (entering_first m places from left);
    }

pub loop-number-preserved : goal.loop-number-preserved
loop-number-preserved g c =
    let so_far = c.loop-number.invariant in
    let m = c.args.roster.now.market in
    let number = c.loop-number.number in
    let now = c.loop-number.stage.assignment in
    let new = c.let_in.new.self in
    record {
      market = c.in-Ok.ensures.market ∙ so_far.market;
      between = c.in-Ok.ensures.entered;
      entering = entering_more m c.args.start.matched.places c.args.start.entered c.args.start.left number now.places new.assignment.places c.loop-number.left c.in-Ok.rest
          so_far.entering (ap (λ x. after_rounds x number c.loop-number.left now.places (Couple number ∷ [])) (sym so_far.market) ∙ c.in-Ok.ensures.settled)
          c.in-Ok.ensures.within;
    }

pub returns-in-Err-BudgetSpent-clause-leads : goal.returns-in-Err-BudgetSpent-clause-leads
returns-in-Err-BudgetSpent-clause-leads g c =
    let so_far = c.loop-number.invariant.entering in
    record { order = so_far.low; entries = so_far.reached ∙ ap (λ places. Some (places, c.loop-number.left)) (sym c.in_ok-before.ensures) }

pub returns-in-Err-BudgetSpent-clause-stuck : goal.returns-in-Err-BudgetSpent-clause-stuck
returns-in-Err-BudgetSpent-clause-stuck g c = λ below.
    stuck_in c.args.roster.now.market c.loop-number.stage c.loop-number.number c.loop-number.left c.in-Err-BudgetSpent.field-0 c.in_ok-before.before.places
    c.in-Err-BudgetSpent.field-0-is c.in-Err-BudgetSpent.ensures.spent c.loop-number.invariant.market c.in_ok-before.ensures

pub returns-in-Err-BudgetSpent-clause-fits : goal.returns-in-Err-BudgetSpent-clause-fits
returns-in-Err-BudgetSpent-clause-fits g c =
    ap (fits c.args.roster.now.market) c.in_ok-before.ensures
    ∙ ap (λ x. fits x c.loop-number.stage.assignment.places) (sym c.loop-number.invariant.market) ∙ c.loop-number.invariant.between.fitting

pub returns-clause-leads : goal.returns-clause-leads
returns-clause-leads g c =
    let so_far = c.loop-number.invariant.entering in
    let m = c.args.roster.now.market in
    let from = c.args.start.entered in
    let here : c.loop-number.number ≡ c.args.until = omega (arith, c.requires.order) in
    record {
      order = c.requires.order;
      entries =
          ap (λ n. after_entries m (range_with_len from (n - from)) c.args.start.left c.args.start.matched.places) (sym here)
          ∙ so_far.reached ∙ ap (λ places. Some (places, c.loop-number.left)) (sym c.into_match.ensures);
    }

pub returns-clause-fits : goal.returns-clause-fits
returns-clause-fits g c =
    ap (fits c.args.roster.now.market) c.into_match.ensures
    ∙ ap (λ x. fits x c.loop-number.stage.assignment.places) (sym c.loop-number.invariant.market) ∙ c.loop-number.invariant.between.fitting
