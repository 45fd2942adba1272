use Rattle.std.proofs.Common.{◌≡◌, map}
use Rattle.mt_terms.specs.Lists.{below}
use Rattle.mt_reordered.specs.Copied.{pairs_unless_aside}
use Rattle.mt_reordered.proofs.couples.pairs_unless_aside.Given as goal

abbrev pub invariant-loop-number : goal.invariant-loop-number
invariant-loop-number l = l.pairs ≡ map (pairs_unless_aside l.aside l.roster.market) (below l.number)
