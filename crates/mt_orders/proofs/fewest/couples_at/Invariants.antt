use Rattle.std.proofs.Common.{◌≡◌, map, take, slice_index}
use Rattle.mt_orders.proofs.fewest.couples_at.Given as goal

abbrev pub invariant-loop-place : goal.invariant-loop-place
invariant-loop-place l = l.couples.items ≡ map (slice_index l.order) (take l.place-index l.places)
