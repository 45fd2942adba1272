use Rattle.std.proofs.Common.{◌≡◌, map, take}
use Rattle.mt_reordered.specs.Copied.{pairs_at}
use Rattle.mt_reordered.proofs.couples.pairs.Given as goal

abbrev pub invariant-loop-couple : goal.invariant-loop-couple
invariant-loop-couple l = l.pairs ≡ map (pairs_at l.roster.market) (take l.couple-index l.order)
