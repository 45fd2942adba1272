use Rattle.std.proofs.Common.{◌≡◌, ◌+◌, length, map}
use Rattle.mt_terms.specs.Lists.{below}
use Rattle.mt_terms.specs.Market.{list_of}
use Rattle.mt_ranks.specs.Entries.{entries_among}
use Rattle.mt_ranks.specs.Stamps.{AreBefore, AreShort}
use Rattle.mt_ranks.specs.Rows.{row_of}
use Rattle.mt_ranks.proofs.tables.live_lists.Given as goal

abbrev pub invariant-loop-place : goal.invariant-loop-place
invariant-loop-place l = record {
  listed : l.lists ≡ map (λ k. entries_among (row_of l.rows k) (list_of l.roster.market (l.block.first + k))) (below l.place);
  len : length l.stamps.items ≡ length l.roster.market.programs;
  before : AreBefore (l.place + 1) l.stamps.items;
  short : AreShort l.stamps.items;
}
