use Rattle.std.proofs.Common.{ap, subst, sym, ◌∙◌}
use Rattle.mt_terms.specs.Market.{Market, agent_of, IsAgentOf}
use Rattle.mt_terms.specs.WellFormed.{IsWellFormed}
use Rattle.mt_assignment.specs.Assigned.{Assigned}
use Rattle.mt_assignment.proofs.MarketFacts.{agent_within}
use Rattle.mt_assignment.proofs.assignment.Assignment.agent_of.Goals as goal

pub returns-clause-within : goal.returns-clause-within
returns-clause-within c =
    let is = ap (λ (s : Assigned). s.market) c.self.view_is in
    let well = subst IsWellFormed is c.self.invariant.is_registration.well_formed in
    subst (IsAgentOf c.args.self.now.market) (ap (λ (m : Market). agent_of m c.args.applicant) (sym is) ∙ sym c.agent_of.ensures)
    (agent_within c.args.self.now.market well c.args.applicant c.requires)
