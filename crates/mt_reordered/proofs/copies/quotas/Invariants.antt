use Rattle.std.proofs.Common.{◌≡◌, map}
use Rattle.mt_terms.specs.Lists.{below}
use Rattle.mt_reordered.specs.Copied.{quota_at}
use Rattle.mt_reordered.proofs.copies.quotas.Given as goal

abbrev pub invariant-loop-number : goal.invariant-loop-number
invariant-loop-number l = l.quotas.items ≡ map (quota_at l.roster.market) (below l.number)
