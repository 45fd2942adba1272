use Rattle.std.proofs.Common.{[], arith}
use Rattle.mt_terms.specs.Market.{list_of}
use Rattle.mt_reordered.proofs.ColumnFacts.{one_more, rows_are}
use Rattle.mt_reordered.proofs.copies.single_lists.Goals as goal

pub loop-number-preserved : goal.loop-number-preserved
loop-number-preserved c =
    one_more (list_of c.args.roster.now.market) c.loop-number.number _ _ c.single_list.result.now c.loop-number.invariant c.single_list.ensures c.in_ok-push_list.ensures.ok

pub returns : goal.returns
returns c = rows_are [] c.args.roster.now.market.lists _ c.loop-number.number c.loop-number.invariant (omega (arith, c.applicants-number-end.ensures.count))
