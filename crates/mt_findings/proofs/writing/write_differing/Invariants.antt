use Rattle.std.proofs.Common.{take}
use Rattle.mt_first_finding.specs.View.{market_of, places_of}
use Rattle.mt_findings.specs.Findings.{differing_of}
use Rattle.mt_findings.specs.Writing.{Wrote}
use Rattle.mt_findings.proofs.writing.write_differing.Given as goal

-- the lines of the records so far
abbrev pub invariant-loop-counted : goal.invariant-loop-counted
invariant-loop-counted g l =
    Wrote g.W.Write.contents l.roster l.fn.drain l.drain l.fn.lines l.lines (differing_of (market_of l.tally) (places_of l.tally) (take l.counted-index l.counts))
