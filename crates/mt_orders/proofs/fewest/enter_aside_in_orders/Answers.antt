use Rattle.std.proofs.Common.{refl}
use Rattle.mt_orders.specs.Fewest.{fewest_order}
use Rattle.mt_orders.proofs.FewestFacts.{found_is_stable, if_ok, places_in_order}
use Rattle.mt_orders.proofs.fewest.enter_aside_in_orders.Goals as goal

pub returns-clause-stable : goal.returns-clause-stable
returns-clause-stable g c =
    let m = c.args.roster.now.market in
    let best = c.args.singles.now.places in
    let budget = c.args.tries.budget in
    if_ok c.fewest.result c.fewest.ensures
    (λ a h. found_is_stable m c.is_of_a_file.ensures.well_formed best c.requires.best budget (fewest_order m best budget c.args.tries.orders) (a.matched.places, h.rounds) h.ends a
    h.couples refl)

pub returns-clause-places : goal.returns-clause-places
returns-clause-places g c =
    let m = c.args.roster.now.market in
    let best = c.args.singles.now.places in
    let budget = c.args.tries.budget in
    if_ok c.fewest.result c.fewest.ensures
    (λ a h. places_in_order m c.is_of_a_file.ensures.well_formed best c.requires.best budget (fewest_order m best budget c.args.tries.orders) (a.matched.places, h.rounds) h.ends)
