use Rattle.std.proofs.Common.{ap, subst}
use Rattle.mt_floor_laws.specs.Live.{LiveAgrees}
use Rattle.mt_floor_laws.proofs.LiveLemmas.{live_market_agrees_lem}
use Rattle.mt_round_laws.proofs.RoundsStage.{singles_fit}
use Rattle.mt_terms.specs.Best.{IsBest}
use Rattle.mt_terms.specs.Market.{Market}
use Rattle.mt_ranks.specs.Ranked.{Ranked}
use Rattle.mt_samples.proofs.singles.singles.Goals as goal

pub returns-clause-best : goal.returns-clause-best
returns-clause-best c =
    let market = c.args.roster.now.market in
    let formed = c.is_of_a_file.ensures.well_formed in
    let places = c.in_ok-matched.matched.places in
    let of_live = c.in_ok-matched.ensures.best (c.finish.ensures.legal c.in_ok-floor.ensures.strict.legal) in
    (LiveAgrees.same_best (live_market_agrees_lem market formed) places).0
    (subst (λ (x : Market). IsBest x places) (ap Ranked.market c.requires) of_live)

pub returns-clause-fits : goal.returns-clause-fits
returns-clause-fits c =
    singles_fit c.args.roster.now.market c.is_of_a_file.ensures.well_formed c.in_ok-matched.matched.places (IsBest.is_stable (returns-clause-best c))
