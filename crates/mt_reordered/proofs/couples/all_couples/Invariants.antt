use Rattle.std.proofs.Common.{◌≡◌}
use Rattle.mt_terms.specs.Lists.{below}
use Rattle.mt_reordered.proofs.couples.all_couples.Given as goal

abbrev pub invariant-loop-number : goal.invariant-loop-number
invariant-loop-number l = l.order.items ≡ below l.number
