use Rattle.std.proofs.Common.{◌≡◌, ◌+◌, ◌++◌, drop, sum}
use Rattle.mt_ranks.specs.Rows.{starts_from}
use Rattle.mt_ranks.proofs.rows.begins.Given as goal

abbrev pub invariant-loop-size : goal.invariant-loop-size
invariant-loop-size l = record {
  starts : l.starts.items ++ starts_from l.total (drop l.size-index l.sizes) ≡ starts_from 0 l.sizes;
  total : l.total + sum (drop l.size-index l.sizes) ≡ sum l.sizes;
}
