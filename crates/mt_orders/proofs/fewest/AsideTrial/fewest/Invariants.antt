use Rattle.std.proofs.Common.{◌+◌, ◌-◌, ◌≤◌}
use Rattle.mt_orders.specs.Fewest.{fewest_order, IsAsideInOrder}
use Rattle.mt_orders.proofs.fewest.AsideTrial.fewest.Given as goal

abbrev pub invariant-batches : goal.invariant-batches
invariant-batches g l = record {
  low : 2 ≤ l.from;
  high : l.from - 1 ≤ l.orders;
  fewest : IsAsideInOrder l.self.roster.now.market l.self.singles.now.places l.self.budget
      (fewest_order l.self.roster.now.market l.self.singles.now.places l.self.budget (l.from - 1)) l.fewest;
}

abbrev pub decreases-batches : goal.decreases-batches
decreases-batches g l = l.orders + 1 - l.from
