use Rattle.std.proofs.Common.{◌≡◌, map, drop}
use Rattle.mt_terms.specs.Lists.{below}
use Rattle.mt_reordered.specs.Copied.{place_from}
use Rattle.mt_reordered.proofs.couples.places.Given as goal

abbrev pub invariant-loop-place : goal.invariant-loop-place
invariant-loop-place l = l.places.items ≡ map (place_from (drop l.place l.order) l.place) (below l.couples)
