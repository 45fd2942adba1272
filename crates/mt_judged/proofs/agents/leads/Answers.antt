use Rattle.std.proofs.Common.{◌∙◌, subst, sym}
use Rattle.mt_terms.specs.Market.{IsAgentOf}
use Rattle.mt_explain.proofs.LawFacts.{agent_numbered}
use Rattle.mt_judged.proofs.agents.leads.Goals as goal

pub members-requires : goal.members-requires
members-requires c =
    let m = c.args.roster.now.market in
    subst (IsAgentOf m) (sym c.agent_of.ensures ∙ c.in-Couple.is) (agent_numbered m c.args.applicant c.requires)
