use Rattle.std.proofs.lemmas.Grind.{common_steps}
use Rattle.std.proofs.Common.{◌≡◌, length, ap, ◌∙◌, arith}
use Rattle.mt_terms.specs.Market.{applicants, live}
use Rattle.mt_terms.proofs.BelowFacts.{length-map_below}
use Rattle.mt_ranks.specs.Ranked.{Ranked}
use Rattle.mt_desks.proofs.opening.deal_out.Goals as goal

pub deal-requires-clause-parts : goal.deal-requires-clause-parts
deal-requires-clause-parts g c =
    let m = c.args.ranks.now.market in
    let number : length c.deref.result.now ≡ applicants g.K.HallName.ranked.market =
    ap length (c.deref.ensures.value ∙ c.in_ok-credits.ensures.each) ∙ length-map_below (λ a. length (live m a)) (applicants m) ∙ ap (λ (r : Ranked). applicants r.market) c.requires.ranks in
    (c.requires.parts.0, omega (arith, c.requires.parts.1, number))

pub seat-requires : goal.seat-requires
seat-requires g c = grind (arith, common_steps)

pub seat_passes-requires-clause-shares : goal.seat_passes-requires-clause-shares
seat_passes-requires-clause-shares g c = grind (arith, common_steps)

pub seat_passes-requires-clause-one_each : goal.seat_passes-requires-clause-one_each
seat_passes-requires-clause-one_each g c = grind (arith, common_steps)

pub seat_passes-requires-clause-room : goal.seat_passes-requires-clause-room
seat_passes-requires-clause-room g c = grind (arith, common_steps)
