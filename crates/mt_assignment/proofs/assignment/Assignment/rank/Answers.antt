use Rattle.std.proofs.Common.{arith, ap}
use Rattle.mt_terms.specs.Market.{applicants}
use Rattle.mt_assignment.specs.Assigned.{Assigned}
use Rattle.mt_assignment.proofs.assignment.Assignment.rank.Goals as goal
use Rattle.mt_ranks.proofs.LiveMarket.{ranked_applicants}

pub rank-requires-clause-applicant : goal.rank-requires-clause-applicant
rank-requires-clause-applicant c =
    omega (arith, ranked_applicants c.self.inside.ranks.now c.self.inside.roster.now.market c.self.invariant.one_market, ap (λ (s : Assigned). applicants s.market) c.self.view_is)
