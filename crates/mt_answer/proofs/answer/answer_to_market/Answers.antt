use Rattle.std.proofs.Common.{◌≡◌, ◌∙◌, ℕ, Option, Vec, Global, true, not, ap, sym, subst, length, arith}
use Rattle.std.proofs.lemmas.Bool.{true≢false}
use Rattle.std.specs.Prelude.{IsTrue, MatchOption}
use Rattle.mt_terms.specs.Best.{proposals}
use Rattle.mt_terms.specs.Stability.{stable}
use Rattle.mt_terms.proofs.BelowFacts.{length-map_below}
use Rattle.mt_round_laws.proofs.RoundsStage.{stage_is_stable_lem}
use Rattle.mt_answer.specs.Answer.{IsPublished}
use Rattle.mt_answer.proofs.RefusalFacts.{no_memory}
use Rattle.mt_answer.proofs.MatchFacts.{stable_are_places}
use Rattle.mt_answer.proofs.answer.answer_to_market.Goals as goal

-- from the best match the couples' stage ends in a stable match
pub publish-requires-clause-places : goal.publish-requires-clause-places
publish-requires-clause-places g c κs within =
    stable_are_places c.args.roster.now.market c.is_of_a_file.ensures.well_formed _
    (stage_is_stable_lem c.args.roster.now.market c.is_of_a_file.ensures.well_formed c.in-Ok-match_singles.singles.matched.places c.in-Ok-match_singles.ensures.best c.args.options.budget _
    c.in_ok-matched.ensures.entered.1)

pub publish-requires-clause-proposals : goal.publish-requires-clause-proposals
publish-requires-clause-proposals g c =
    omega (
      arith,
      c.deref.ensures.len,
      ap length c.in-Ok-match_singles.ensures.proposals,
      length-map_below (proposals c.args.roster.now.market c.in-Ok-match_singles.singles.matched.places) (length c.args.roster.now.market.programs),
    )

pub unreachable-requires : goal.unreachable-requires
unreachable-requires g c =
    let places = c.in_ok-matched.matched.places in
    let market = c.args.roster.now.market in
    let is_stable : stable market places ≡ true =
    stage_is_stable_lem market c.is_of_a_file.ensures.well_formed c.in-Ok-match_singles.singles.matched.places c.in-Ok-match_singles.ensures.best c.args.options.budget _
    c.in_ok-matched.ensures.entered.1 in
    let is_not : not (stable market places) ≡ true =
    subst (λ (text : Option (Vec ℕ Global)). MatchOption text (IsTrue (not (stable market places))) (λ t. IsPublished c.args.roster.now places c.deref.result.now t.items))
    c.in-Ok-None.field-0-is c.in-Ok-None.ensures in
    true≢false (sym is_not ∙ ap not is_stable)

pub returns-clause-refused : goal.returns-clause-refused
returns-clause-refused g c = no_memory c.alone-in-Err.result c.alone-in-Err.ensures.named c.alone-in-Err.ensures.code

pub returns-in_default-clause-refused : goal.returns-in_default-clause-refused
returns-in_default-clause-refused g c = no_memory c.alone.result c.alone.ensures.named c.alone.ensures.code

pub returns-in_default-match_singles-clause-refused : goal.returns-in_default-match_singles-clause-refused
returns-in_default-match_singles-clause-refused g c = no_memory c.alone-in_default-match_singles.result c.alone-in_default-match_singles.ensures.named c.alone-in_default-match_singles.ensures.code
