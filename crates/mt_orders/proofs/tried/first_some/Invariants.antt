use Rattle.std.proofs.Common.{◌≡◌, drop}
use Rattle.mt_orders.specs.Tried.{first_some}
use Rattle.mt_orders.proofs.tried.first_some.Given as goal

abbrev pub invariant-loop-place : goal.invariant-loop-place
invariant-loop-place l = record {
  same : l.ends ≡ l.fn.ends;
  none : first_some (drop l.place l.fn.ends.items) ≡ first_some l.fn.ends.items;
}
