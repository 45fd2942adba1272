use Rattle.std.proofs.Common.{◌≡◌, ◌++◌, ◌∷◌, [], map, sym, ap, ap₂, ◌∙◌, arith, subst}
use Rattle.mt_terms.specs.Lists.{below}
use Rattle.mt_terms.specs.Market.{applicants}
use Rattle.mt_terms.specs.Matching.{Places}
use Rattle.mt_terms.specs.Best.{IsBest}
use Rattle.mt_terms.specs.Floor.{place_on, result_of, HasProposalsOf}
use Rattle.mt_floor_laws.proofs.FloorQuiet.{quiet_counts_lem}
use Rattle.mt_floor_laws.proofs.FloorRuns.{result_of_is_result}
use Rattle.mt_floor_laws.proofs.LegalBestLemmas.{legal_floor_best}
use Rattle.mt_core.specs.Floors.{floor_of}
use Rattle.mt_terms.proofs.BelowFacts.{map-below_more}
use Rattle.mt_core.proofs.end.result.Goals as goal

pub loop-applicant-preserved : goal.loop-applicant-preserved
loop-applicant-preserved c =
    let m = c.args.ranks.now.market in
    c.in_ok-push.ensures.items
    ∙ ap₂ (λ xs x. xs ++ x ∷ []) c.loop-applicant.invariant c.place.ensures
    ∙ sym (map-below_more (place_on m (floor_of m c.args.floor.now)) c.loop-applicant.applicant)

pub returns-clause-places : goal.returns-clause-places
returns-clause-places c =
    let m = c.args.ranks.now.market in
    let all : c.loop-applicant.applicant ≡ applicants m = omega (arith, c.applicants-applicant-end.ensures.count) in
    c.new.ensures ∙ c.loop-applicant.invariant ∙ ap (λ n. map (place_on m (floor_of m c.args.floor.now)) (below n)) all

pub returns-clause-best : goal.returns-clause-best
returns-clause-best c legal =
    let m = c.args.ranks.now.market in
    let f = floor_of m c.args.floor.now in
    subst (λ (s : Places). IsBest m s) (sym (returns-clause-places c))
    (legal_floor_best m c.applicants-applicant-end.ensures.ranked.well_formed f legal c.requires.quiet (result_of m f) (result_of_is_result m f))

pub returns-clause-proposals : goal.returns-clause-proposals
returns-clause-proposals c recorded =
    let m = c.args.ranks.now.market in
    let f = floor_of m c.args.floor.now in
    subst (λ (s : Places). HasProposalsOf m f s) (sym (returns-clause-places c))
    (quiet_counts_lem m c.applicants-applicant-end.ensures.ranked.well_formed f recorded c.requires.quiet (result_of m f) (result_of_is_result m f))
