use Rattle.std.proofs.Common.{[], ◌∙◌, ap, sym}
use Rattle.mt_terms.specs.Market.{Registered}
use Rattle.mt_order_laws.specs.Reordered.{reordered_registered}
use Rattle.mt_order_laws.proofs.FormedFacts.{order_of_some}
use Rattle.mt_orders.proofs.FewestFacts.{places_within}
use Rattle.mt_orders.proofs.MarketFacts.{numbered_is_order}
use Rattle.mt_orders.proofs.fewest.AsideTrial.aside_of.Goals as goal

pub reordered-requires : goal.reordered-requires
reordered-requires g c =
    let m = c.args.self.now.roster.now.market in
    let o = numbered_is_order m c.args.number c.couples.result c.deref.result.now (c.deref.ensures.value ∙ c.in_ok-order.ensures) c.couples.ensures.count in
    order_of_some m [] c.deref.result.now o

pub couples_at-requires : goal.couples_at-requires
couples_at-requires g c =
    let t = c.args.self.now in
    places_within t.roster.now.market t.singles.now.places t.budget c.deref-2.result.now c.deref-3.result.now c.in_ok-market.market.market
    (ap Registered.market (c.in_ok-market.ensures ∙ ap (λ xs. reordered_registered xs t.roster.now) (c.deref.ensures.value ∙ sym c.deref-2.ensures.value)))
    (c.deref-3.ensures.value ∙ c.in_ok-aside.ensures.aside)
