use Rattle.std.proofs.Common.{◌∙◌, List, map, string_bytes, subst, sym}
use Rattle.std.specs.List.{All}
use Rattle.mt_terms.specs.declared.numbers.Agent.{Agent}
use Rattle.mt_terms.specs.Registration.Ids.{Bytes}
use Rattle.mt_terms.specs.Market.{IsAgentOf}
use Rattle.mt_explained.specs.Found.{AreAsked}
use Rattle.mt_match_file.specs.declared.agents.NamedAgents.{NamedAgents}
use Rattle.mt_match_file.specs.declared.agents.NamedAgents.TheVariants.{Agents}
use Rattle.mt_explained.proofs.AskedFacts.{asked_numbered}
use Rattle.mt_explained.proofs.whole.explain_places.Goals as goal

pub write_lines-requires-clause-agents : goal.write_lines-requires-clause-agents
write_lines-requires-clause-agents g c κs within =
    let r = c.args.files.now.roster in
    let ids : List Bytes = map string_bytes c.args.asked.ids.now in
    let are : AreAsked r ids (Agents c.in-Agents.agents) = subst (λ (found : NamedAgents). AreAsked r ids found) c.in-Agents.is c.in_ok-word.ensures in
    subst (λ (agents : List Agent). All (IsAgentOf r.market) agents) (sym (c.deref.ensures.value ∙ are.1)) (asked_numbered r c.is_of_a_file.ensures ids)
