use Rattle.std.proofs.Common.{◌≡◌, ◌++◌, map, take, get_or}
use Rattle.mt_assignment.proofs.assignment.add_ranked.Given as goal

abbrev pub invariant-loop-rank : goal.invariant-loop-rank
invariant-loop-rank l = l.out.items ≡ l.initial.out.items ++ map (λ r. get_or l.ranking r 0) (take l.rank-index l.ranks)
