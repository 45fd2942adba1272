use Rattle.mt_terms.specs.Market.{agent_of}
use Rattle.mt_reordered.proofs.ColumnFacts.{one_more}
use Rattle.mt_reordered.proofs.couples.agents.Goals as goal

pub loop-number-preserved : goal.loop-number-preserved
loop-number-preserved c =
    one_more (agent_of c.args.roster.now.market) c.loop-number.number _ _ c.agent_of.result c.loop-number.invariant c.agent_of.ensures c.in_ok-push.ensures.items
