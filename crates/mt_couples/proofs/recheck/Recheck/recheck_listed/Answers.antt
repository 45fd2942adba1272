use Rattle.std.proofs.lemmas.Grind.{common_steps}
use Rattle.std.proofs.Common.{arith}
use Rattle.mt_terms.specs.Market.{applicants}
use Rattle.mt_assignment.proofs.MarketFacts.{read_within}
use Rattle.mt_couples.proofs.recheck.Recheck.recheck_listed.Goals as goal

pub agent_of-agent-requires : goal.agent_of-agent-requires
agent_of-agent-requires c =
    read_within c.ranking-applicant-items.result.now c.loop-applicant.applicant-index c.applicant-item.result (applicants c.args.self.now.assignment.now.market) c.loop-applicant-test.true c.applicant-item.is
    c.ranking-applicant-items.ensures.within

pub loop-applicant-preserved : goal.loop-applicant-preserved
loop-applicant-preserved c = grind (arith, common_steps)

pub returns : goal.returns
returns c = grind (arith, common_steps)
