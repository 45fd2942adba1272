use Rattle.std.proofs.Common.{take}
use Rattle.std.specs.List.{flat_map}
use Rattle.mt_findings.specs.Findings.{blocking_by}
use Rattle.mt_findings.specs.Writing.{Wrote}
use Rattle.mt_findings.proofs.writing.write_blocking.Given as goal

-- the lines of the agents so far
abbrev pub invariant-loop-agent : goal.invariant-loop-agent
invariant-loop-agent g l =
    let r = l.tables.registered in
    Wrote g.W.Write.contents r l.fn.drain l.drain l.fn.lines l.lines (flat_map (blocking_by r.market l.tables.places) (take l.agent-index l.agents))
