use Rattle.std.proofs.Common.{◌≡◌, ◌-◌, ◌+◌, ◌≤◌, None}
use Rattle.std.specs.List.{find, range_with_len}
use Rattle.mt_order_laws.specs.Orders.{ends_in_order}
use Rattle.mt_orders.proofs.tried.Trial.first_after_registration.Given as goal

abbrev pub invariant-batches : goal.invariant-batches
invariant-batches g l = record {
  low : 2 ≤ l.from;
  high : l.from - 2 ≤ l.orders - 1;
  none : find (ends_in_order l.self.roster.now.market l.self.singles.now.places l.self.budget) (range_with_len 2 (l.from - 2)) ≡ None;
}

abbrev pub decreases-batches : goal.decreases-batches
decreases-batches g l = l.orders + 1 - l.from
