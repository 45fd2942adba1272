use Rattle.std.proofs.Common.{◌≡◌}
use Rattle.mt_orders.specs.Fewest.{fewest_of}
use Rattle.mt_orders.proofs.fewest.fewest_of.Given as goal

abbrev pub invariant-loop-other : goal.invariant-loop-other
invariant-loop-other l = l.fewest ≡ fewest_of l.fn.first l.yielded
