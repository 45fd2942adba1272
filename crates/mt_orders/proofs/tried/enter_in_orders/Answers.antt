use Rattle.std.proofs.Common.{◌∙◌, ◌-◌, ap, subst, sym}
use Rattle.std.specs.List.{range_with_len}
use Rattle.mt_terms.specs.Rounds.{stage}
use Rattle.mt_terms.specs.Stability.{fits}
use Rattle.mt_round_laws.proofs.RoundsStage.{singles_fit}
use Rattle.mt_orders.specs.Tried.{IsFirstEnd}
use Rattle.mt_orders.proofs.TriedFacts.{first_is_stable, no_first, other_first, registration_first, spent_is}
use Rattle.mt_orders.proofs.tried.enter_in_orders.Goals as goal

pub enter_all-requires-clause-market : goal.enter_all-requires-clause-market
enter_all-requires-clause-market g c =
    let m = c.args.roster.now.market in
    record {
      ranks = c.requires.ranks;
      fitting = ap (fits m) c.in_ok-first.ensures ∙ singles_fit m c.is_of_a_file.ensures.well_formed c.args.singles.now.places c.requires.best.is_stable;
    }

pub returns-in-Ok-clause-first : goal.returns-in-Ok-clause-first
returns-in-Ok-clause-first g c =
    let m = c.args.roster.now.market in
    let e = c.in-Ok.entered in
    registration_first m c.args.singles.now.places c.args.tries.budget c.args.tries.orders (e.matched.places, e.rounds) c.requires.some
    (ap (λ p. stage m p c.args.tries.budget) (sym c.in_ok-first.ensures) ∙ c.in-Ok.ensures.entered)

pub returns-in-Ok-clause-stable : goal.returns-in-Ok-clause-stable
returns-in-Ok-clause-stable g c =
    first_is_stable c.args.roster.now.market c.args.singles.now.places c.args.tries.budget c.is_of_a_file.ensures.well_formed c.requires.best c.args.tries.orders
    c.in-Ok.entered.matched.places (returns-in-Ok-clause-first g c)

pub returns-in-Some-clause-first : goal.returns-in-Some-clause-first
returns-in-Some-clause-first g c =
    let m = c.args.roster.now.market in
    let best = c.args.singles.now.places in
    let budget = c.args.tries.budget in
    let orders = c.args.tries.orders in
    let spent = ap (λ p. stage m p budget) (sym c.in_ok-first.ensures) ∙ spent_is m c.in_ok-first.first.places budget c.in-Err-BudgetSpent.field-0 c.in-Err-BudgetSpent.field-0-is c.in-Err-BudgetSpent.ensures.spent in
    other_first m best budget orders c.in-Some.matched c.requires.some spent
    (subst (IsFirstEnd m best budget (range_with_len 2 (orders - 1))) c.in-Some.is c.in_ok-found.ensures)

pub returns-in-Some-clause-stable : goal.returns-in-Some-clause-stable
returns-in-Some-clause-stable g c =
    first_is_stable c.args.roster.now.market c.args.singles.now.places c.args.tries.budget c.is_of_a_file.ensures.well_formed c.requires.best c.args.tries.orders
    c.in-Some.matched.places (returns-in-Some-clause-first g c)

pub returns-clause-none : goal.returns-clause-none
returns-clause-none g c =
    let m = c.args.roster.now.market in
    let best = c.args.singles.now.places in
    let budget = c.args.tries.budget in
    let orders = c.args.tries.orders in
    let spent = ap (λ p. stage m p budget) (sym c.in_ok-first.ensures) ∙ spent_is m c.in_ok-first.first.places budget c.in-Err-BudgetSpent.field-0 c.in-Err-BudgetSpent.field-0-is c.in-Err-BudgetSpent.ensures.spent in
    no_first m best budget orders c.requires.some spent
    (subst (IsFirstEnd m best budget (range_with_len 2 (orders - 1))) c.in-None.is c.in_ok-found.ensures)
