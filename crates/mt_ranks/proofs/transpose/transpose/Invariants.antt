use Rattle.std.proofs.Common.{◌≡◌, length}
use Rattle.mt_ranks.specs.Entries.{rankings_of, ListedTimes}
use Rattle.mt_ranks.proofs.ListedFacts.{AreEntered}
use Rattle.mt_ranks.proofs.transpose.transpose.Given as goal

abbrev pub invariant-loop-program : goal.invariant-loop-program
invariant-loop-program l = record {
  len : length l.rows.lists ≡ l.block.size;
  sizes : ListedTimes l.roster.market l.block.first l.block.size l.rows.sizes;
  entered : AreEntered l.block.first l.rows (rankings_of l.roster.market) l.program;
}
