use Rattle.std.proofs.Common.{◌≡◌, ◌∙◌, ℕ, [], ◌∷◌, ◌++◌, map, ap, sym, length, arith}
use Rattle.mt_core.specs.Floors.{floor_of}
use Rattle.mt_terms.proofs.BelowFacts.{map-below_more}
use Rattle.mt_terms.specs.Floor.{Floor}
use Rattle.mt_terms.specs.Lists.{below, count_below}
use Rattle.mt_terms.specs.Market.{applicants}
use Rattle.mt_crew.proofs.singles.all_received.Goals as goal

pub loop-program-preserved : goal.loop-program-preserved
loop-program-preserved c =
    let market = c.args.ranks.now.market in
    let counts : ℕ → ℕ = λ p. count_below (Floor.received (floor_of market c.args.floor.now) p) (applicants market) in
    let one = c.received.ensures market c.programs-program-end.ensures.ranked.well_formed c.requires in
    c.in_ok-push.ensures.items ∙ ap (λ xs. xs ++ c.received.result ∷ []) c.loop-program.invariant
    ∙ ap (λ x. map counts (below c.loop-program.program) ++ x ∷ []) one ∙ sym (map-below_more counts c.loop-program.program)

pub returns : goal.returns
returns c =
    let market = c.args.ranks.now.market in
    let counts : ℕ → ℕ = λ p. count_below (Floor.received (floor_of market c.args.floor.now) p) (applicants market) in
    let end : c.loop-program.program ≡ length market.programs = omega (arith, c.programs-program-end.ensures.count) in
    c.loop-program.invariant ∙ ap (λ n. map counts (below n)) end
