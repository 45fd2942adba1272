use Rattle.std.proofs.Common.{◌≡◌, map, take}
use Rattle.mt_terms.specs.Lists.{has, below}
use Rattle.mt_reordered.proofs.couples.flags.Given as goal

abbrev pub invariant-loop-couple : goal.invariant-loop-couple
invariant-loop-couple l = l.flags.items ≡ map (has (take l.couple-index l.list)) (below l.couples)
