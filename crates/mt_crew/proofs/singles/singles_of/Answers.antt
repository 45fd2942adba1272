use Rattle.std.proofs.Common.{◌∙◌, ℕ, ap, length, map}
use Rattle.std.proofs.Math.Path.{fun_ext}
use Rattle.mt_terms.specs.Lists.{below}
use Rattle.mt_core.specs.Floors.{floor_of}
use Rattle.mt_crew.proofs.WayFacts.{made_on_the_way}
use Rattle.mt_crew.proofs.singles.singles_of.Goals as goal

pub returns-clause-proposals : goal.returns-clause-proposals
returns-clause-proposals c =
    let places = c.in_ok-matched.ensures.proposals c.finish-late.ensures.recorded in
    c.in_ok-proposals.ensures ∙ ap (λ (counts : ℕ → ℕ). map counts (below (length c.args.ranks.now.market.programs))) (fun_ext places.same_counts)

pub returns-clause-late : goal.returns-clause-late
returns-clause-late c =
    let market = c.args.ranks.now.market in
    let recorded = c.finish-late.ensures.recorded in
    made_on_the_way market (floor_of market c.finish-late.new.floor) c.in_ok-matched.matched.places recorded (c.in_ok-matched.ensures.proposals recorded)
    ∙ c.finish-late.ensures.rises
