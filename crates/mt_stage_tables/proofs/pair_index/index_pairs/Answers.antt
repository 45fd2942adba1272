use Rattle.std.proofs.Common.{arith}
use Rattle.mt_stage_tables.proofs.NamedFacts.{pairs_indexed, pairs_indexed_first, pairs_indexed_more}
use Rattle.mt_stage_tables.proofs.pair_index.index_pairs.Goals as goal

pub loop-index-init : goal.loop-index-init
loop-index-init c = pairs_indexed_first c.args.rows.now c.args.couple c.args.pairs.now c.args.start

pub loop-index-preserved : goal.loop-index-preserved
loop-index-preserved c =
    pairs_indexed_more c.args.rows.now c.loop-index.rows c.index_place.new.rows c.index_place-in-loop-index.new.rows c.args.couple c.args.pairs.now c.args.start c.loop-index.index c.short_index-from.result c.index-pairs-index.result
    c.loop-index.invariant (omega (arith, c.requires, c.loop-index-test.true)) c.index-pairs-index.is c.short_index-from.ensures c.in_ok-index_place.ensures c.in_ok-index_place-2.ensures

pub returns : goal.returns
returns c = pairs_indexed c.args.rows.now c.loop-index.rows c.args.couple c.args.pairs.now c.args.start c.loop-index.index c.args.end c.loop-index-test.false c.loop-index.invariant
