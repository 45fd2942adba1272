use Rattle.std.proofs.Common.{ap, refl, ◌∙◌}
use Rattle.mt_terms.specs.Best.{proposals}
use Rattle.mt_ranks.specs.Ranked.{Ranked}
use Rattle.mt_answer.proofs.SinglesFacts.{best_of_live, proposals_of_live}
use Rattle.mt_answer.proofs.singles.match_singles.Goals as goal

pub returns-clause-best : goal.returns-clause-best
returns-clause-best g c =
    best_of_live c.args.roster.now.market c.is_of_a_file.ensures.well_formed c.args.ranks.now.market (ap Ranked.market c.requires.ranks)
    c.in_ok-singles.singles.matched.places c.in_ok-singles.ensures.best

pub returns-clause-proposals : goal.returns-clause-proposals
returns-clause-proposals g c =
    let live = c.args.ranks.now.market in
    let places = c.in_ok-singles.singles.matched.places in
    c.in_ok-singles.ensures.proposals
    ∙ proposals_of_live c.args.roster.now.market c.is_of_a_file.ensures.well_formed live (ap Ranked.market c.requires.ranks) places
    (proposals live places) (λ p. refl)
