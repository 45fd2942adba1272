use Rattle.std.proofs.Common.{◌≡◌, ◌+◌, ◌++◌, ◌∙◌, take, drop, ap, subst}
use Rattle.mt_terms.specs.declared.numbers.Agent.{Agent}
use Rattle.mt_explain_text.specs.Text.{agent_text, agents_text}
use Rattle.mt_explained.proofs.LineFacts.{agents_more, agents_rest}
use Rattle.mt_pages.proofs.SendingFacts.{cut_in, on_err, sends_then}
use Rattle.mt_pages.specs.Sending.{Sends}
use Rattle.mt_explained.proofs.sending.write_agents.Goals as goal

pub returns-in_err-write_agent-clause-cut : goal.returns-in_err-write_agent-clause-cut
returns-in_err-write_agent-clause-cut g c =
    let r = c.args.lines.now.tables.registered in
    let places = c.args.lines.now.tables.places in
    let is_public = c.args.lines.now.is_public in
    let i = c.loop-agent.agent-index in
    on_err _ (cut_in g.W.Write.contents _ _ _ _ _ _ _ (agents_text r places is_public (drop (i + 1) c.args.agents.now)) _ c.loop-agent.invariant
    c.in_err-write_agent.ensures.cut.breaks c.in_err-write_agent.ensures.cut.one_failed (agents_rest r places is_public c.args.agents.now i c.agent-item.result c.loop-agent-test.true c.agent-item.is))

pub loop-agent-preserved : goal.loop-agent-preserved
loop-agent-preserved g c =
    let r = c.args.lines.now.tables.registered in
    let places = c.args.lines.now.tables.places in
    let is_public = c.args.lines.now.is_public in
    let agents = c.args.agents.now in
    let i = c.loop-agent.agent-index in
    let item = c.agent-item.result in
    let all : agents_text r places is_public (take i agents) ++ agent_text r places is_public item ≡ agents_text r places is_public (take (i + 1) agents) =
    ap (λ (x : Agent). agents_text r places is_public (take i agents) ++ agent_text r places is_public x) c.agent-item.is
    ∙ agents_more r places is_public agents i item c.loop-agent-test.true in
    record {
      sends = subst (Sends _ _ _ _) all (sends_then _ _ _ _ _ _ _ _ c.loop-agent.invariant.sends c.in_ok-write_agent.ensures.sent.sends);
      none_failed = c.in_ok-write_agent.ensures.sent.none_failed ∙ c.loop-agent.invariant.none_failed;
    }
