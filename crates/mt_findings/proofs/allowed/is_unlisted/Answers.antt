use Rattle.std.proofs.Common.{◌∙◌, ap, subst, sym}
use Rattle.mt_terms.specs.Market.{Registered, agent_of, IsAgentOf}
use Rattle.mt_terms.specs.declared.numbers.Agent.{Agent}
use Rattle.mt_explain.proofs.LawFacts.{agent_numbered}
use Rattle.mt_findings.proofs.allowed.is_unlisted.Goals as goal

pub lowest_number-requires : goal.lowest_number-requires
lowest_number-requires c =
    let m = c.args.tables.now.registered.market in
    subst (λ (g : Agent). IsAgentOf m g) (sym (c.agent_of-agent.ensures ∙ ap (λ (r : Registered). agent_of r.market c.args.applicant) c.roster.ensures)) (agent_numbered m c.args.applicant c.requires)

pub has_own_option-requires : goal.has_own_option-requires
has_own_option-requires c =
    let m = c.args.tables.now.registered.market in
    subst (λ (g : Agent). IsAgentOf m g) (sym (c.agent_of-agent.ensures ∙ ap (λ (r : Registered). agent_of r.market c.args.applicant) c.roster.ensures)) (agent_numbered m c.args.applicant c.requires)
