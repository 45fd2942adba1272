use Rattle.std.proofs.Common.{◌≡◌, ◌++◌, ◌∷◌, [], length, sum, sym, ap, ap₂, ◌∙◌, arith}
use Rattle.mt_terms.specs.Market.{applicants, live}
use Rattle.mt_terms.proofs.BelowFacts.{map-below_more}
use Rattle.mt_desks.proofs.Openings.{live_counts, sum_map_below}
use Rattle.mt_desks.proofs.opening.credits_of.Goals as goal
use Rattle.mt_ranks.proofs.LiveMarket.{few_live}

pub loop-applicant-preserved : goal.loop-applicant-preserved
loop-applicant-preserved c =
    let m = c.args.ranks.now.market in
    c.in_ok-push.ensures.items
    ∙ ap₂ (λ xs x. xs ++ x ∷ []) c.loop-applicant.invariant c.live_len.ensures
    ∙ sym (map-below_more (λ a. length (live m a)) c.loop-applicant.applicant)

pub returns-clause-each : goal.returns-clause-each
returns-clause-each c =
    let m = c.args.ranks.now.market in
    let all : c.loop-applicant.applicant ≡ applicants m = omega (arith, c.applicants-applicant-end.ensures.count) in
    c.loop-applicant.invariant ∙ ap (live_counts m) all

pub returns-clause-all : goal.returns-clause-all
returns-clause-all c =
    let m = c.args.ranks.now.market in
    ap sum (returns-clause-each c) ∙ sum_map_below (λ a. length (live m a)) (applicants m)

pub returns-clause-few : goal.returns-clause-few
returns-clause-few c = few_live c.args.ranks.now c.applicants.ensures.ranked

pub returns-in_err-push-clause-few : goal.returns-in_err-push-clause-few
returns-in_err-push-clause-few c = few_live c.args.ranks.now c.applicants.ensures.ranked
