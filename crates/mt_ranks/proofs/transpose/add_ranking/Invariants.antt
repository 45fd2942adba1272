use Rattle.std.proofs.Common.{◌≡◌, length}
use Rattle.mt_ranks.proofs.ListedFacts.{AreAdded}
use Rattle.mt_ranks.proofs.transpose.add_ranking.Given as goal

abbrev pub invariant-loop-rank : goal.invariant-loop-rank
invariant-loop-rank l = record {
  len : length l.rows.lists ≡ length l.initial.rows.lists;
  sizes : l.rows.sizes ≡ l.initial.rows.sizes;
  added : AreAdded l.block.first l.rows l.initial.rows l.program l.ranking l.rank;
}
