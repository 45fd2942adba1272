use Rattle.std.proofs.lemmas.Grind.{common_steps}
use Rattle.std.proofs.Common.{ap, arith}
use Rattle.mt_terms.specs.Market.{applicants}
use Rattle.mt_assignment.proofs.MarketFacts.{read_within}
use Rattle.mt_assignment.proofs.assignment.Assignment.take_out.Goals as goal

pub agent_of-requires : goal.agent_of-requires
agent_of-requires c =
    omega (
      arith,
      ap applicants c.loop-applicant.invariant.market,
      read_within c.args.displaced.now c.loop-applicant.applicant-index c.applicant-item.result (applicants c.args.self.now.market) c.loop-applicant-test.true c.applicant-item.is c.requires,
    )

pub loop-applicant-preserved : goal.loop-applicant-preserved
loop-applicant-preserved c = grind (arith, common_steps)

pub returns : goal.returns
returns c = grind (arith, common_steps)
