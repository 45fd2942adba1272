use Rattle.std.proofs.Common.{ap, length, arith, subst}
use Rattle.mt_entry.specs.Ended.{IfSpent, IsSpent}
use Rattle.mt_terms.specs.Best.{proposals}
use Rattle.mt_terms.proofs.BelowFacts.{length-map_below}
use Rattle.mt_answer.proofs.InWaysFacts.{entering_within}
use Rattle.mt_answer.proofs.MatchFacts.{stable_are_places}
use Rattle.mt_answer.proofs.in_ways.answer_in_ways.Goals as goal

pub publish-requires-clause-places : goal.publish-requires-clause-places
publish-requires-clause-places g c κs within =
    stable_are_places c.args.roster.now.market c.is_of_a_file.ensures.well_formed c.in-Ok.matched.places c.in-Ok.ensures.stable

pub publish-requires-clause-proposals : goal.publish-requires-clause-proposals
publish-requires-clause-proposals g c κs within =
    omega (
      arith,
      c.deref.ensures.len,
      ap length c.in_ok-singles.ensures.proposals,
      length-map_below (proposals c.args.roster.now.market c.in_ok-singles.singles.matched.places) (length c.args.roster.now.market.programs),
    )

pub entering-requires : goal.entering-requires
entering-requires g c =
    let m = c.args.roster.now.market in
    let best = c.in_ok-singles.singles.matched.places in
    let far : IsSpent m best c.args.options.budget c.in-Err-BudgetSpent.spent =
    subst (λ e. IfSpent e (IsSpent m best c.args.options.budget)) c.in-Err-BudgetSpent.field-0-is c.in-Err-BudgetSpent.ensures.far in
    entering_within m best c.args.options.budget c.in-Err-BudgetSpent.spent far
