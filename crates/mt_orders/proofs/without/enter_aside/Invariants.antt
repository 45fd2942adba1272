use Rattle.std.proofs.Common.{◌≡◌, ◌-◌, length}
use Rattle.mt_orders.proofs.GoingOnFacts.{IsTurn}
use Rattle.mt_orders.proofs.without.enter_aside.Given as goal

abbrev pub invariant-turns : goal.invariant-turns
invariant-turns g l = record {
  turn : IsTurn l.roster.market l.singles.places l.budget l.order.items l.aside.items l.reached.entered l.reached.matched.places l.reached.left;
  many : length l.order.items ≡ length l.roster.market.couples;
}

abbrev pub decreases-turns : goal.decreases-turns
decreases-turns g l = length l.order.items - length l.aside.items
