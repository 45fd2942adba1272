use Rattle.std.proofs.Common.{◌≡◌, map}
use Rattle.mt_terms.specs.Lists.{below}
use Rattle.mt_terms.specs.Market.{list_of}
use Rattle.mt_reordered.proofs.copies.single_lists.Given as goal

abbrev pub invariant-loop-number : goal.invariant-loop-number
invariant-loop-number l = l.lists ≡ map (list_of l.roster.market) (below l.number)
