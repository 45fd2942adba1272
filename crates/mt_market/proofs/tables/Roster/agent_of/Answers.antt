use Rattle.std.proofs.Common.{arith, ap, ◌∙◌, get_or}
use Rattle.mt_terms.specs.Market.{Registered, applicants, agent_of}
use Rattle.mt_market.proofs.TablesFacts.{count_of_agents, agent_at}
use Rattle.mt_market.proofs.tables.Roster.agent_of.Goals as goal

pub index-requires-2 : goal.index-requires-2
index-requires-2 c = omega (arith, count_of_agents c.self.inside.tables c.self.invariant, ap (λ (r : Registered). applicants r.market) c.self.view_is)

pub returns : goal.returns
returns c =
    c.index-2.ensures ∙ ap (λ i. get_or c.self.inside.tables.agents.items i c.index-2.result.now) c.index.ensures
    ∙ agent_at c.self.inside.tables c.args.applicant c.index-2.result.now c.self.invariant (rw (← c.self.view_is) at c.requires)
    ∙ ap (λ (r : Registered). agent_of r.market c.args.applicant) c.self.view_is
