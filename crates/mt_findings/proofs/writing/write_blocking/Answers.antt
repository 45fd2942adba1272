use Rattle.std.proofs.Common.{refl, ap, subst, sym}
use Rattle.std.specs.List.{flat_map}
use Rattle.std.proofs.lemmas.List.{take_all}
use Rattle.mt_terms.specs.declared.numbers.Agent.{Agent}
use Rattle.mt_terms.specs.Market.{IsAgentOf}
use Rattle.mt_pages.proofs.SendingFacts.{on_err}
use Rattle.mt_findings.specs.Findings.{blocking_by}
use Rattle.mt_findings.proofs.LoopFacts.{failed_given, room_given, wrote_given}
use Rattle.mt_findings.proofs.WritingFacts.{wrote_as}
use Rattle.mt_findings.proofs.writing.write_blocking.Goals as goal

pub write_blocking_by-requires-clause-agent : goal.write_blocking_by-requires-clause-agent
write_blocking_by-requires-clause-agent g c =
    let m = c.args.tables.now.registered.market in
    subst (λ (agent : Agent). IsAgentOf m agent) (sym c.agent-item.is) (c.requires.agents c.loop-agent.agent-index c.agent-item.result c.loop-agent-test.true)

pub write_blocking_by-requires-clause-count : goal.write_blocking_by-requires-clause-count
write_blocking_by-requires-clause-count g c =
    let e = c.args.tables.now in
    room_given (blocking_by e.registered.market e.places) c.args.agents.now c.loop-agent.agent-index c.agent-item.result c.loop-agent-test.true c.agent-item.is _ _
    c.loop-agent.invariant.counted c.requires.count

pub returns-in_err-write_blocking_by-clause-failed : goal.returns-in_err-write_blocking_by-clause-failed
returns-in_err-write_blocking_by-clause-failed g c =
    let e = c.args.tables.now in
    on_err _
    (failed_given (blocking_by e.registered.market e.places) c.args.agents.now c.loop-agent.agent-index c.agent-item.result c.loop-agent-test.true c.agent-item.is
    g.W.Write.contents e.registered _ _ _ _ _ _ c.loop-agent.invariant c.in_err-write_blocking_by.ensures.failed)

pub loop-agent-preserved : goal.loop-agent-preserved
loop-agent-preserved g c =
    let e = c.args.tables.now in
    wrote_given (blocking_by e.registered.market e.places) c.args.agents.now c.loop-agent.agent-index c.agent-item.result c.loop-agent-test.true c.agent-item.is
    g.W.Write.contents e.registered _ _ _ _ _ _ c.loop-agent.invariant c.in_ok-write_blocking_by.ensures.wrote

pub returns-clause-wrote : goal.returns-clause-wrote
returns-clause-wrote g c =
    let e = c.args.tables.now in
    wrote_as g.W.Write.contents e.registered e.registered refl _ _ _ _ _ _
    (ap (flat_map (blocking_by e.registered.market e.places)) (take_all c.loop-agent.agent-index c.args.agents.now c.loop-agent-test.false)) c.loop-agent.invariant
