use Rattle.std.proofs.Common.{filter, length, map, take}
use Rattle.mt_terms.specs.Lists.{below}
use Rattle.mt_terms.specs.Matching.{better}
use Rattle.mt_terms.specs.declared.verdict.Verdict.TheVariants.{Blocks}
use Rattle.mt_first_finding.specs.declared.finding.Finding.TheVariants.{Of}
use Rattle.mt_findings.specs.Findings.{is_taken}
use Rattle.mt_findings.specs.Writing.{Wrote}
use Rattle.mt_findings.proofs.writing.write_blocking_by.Given as goal

-- the lines of the options so far
abbrev pub invariant-loop-option : goal.invariant-loop-option
invariant-loop-option g l =
    let r = l.tables.registered in
    Wrote g.W.Write.contents r l.fn.drain l.drain l.fn.lines l.lines
    (map (λ k. Of (Blocks (record { agent = l.agent; option = k }))) (filter (is_taken r.market l.tables.places l.agent) (take l.option (below (length (better r.market l.tables.places l.agent))))))
