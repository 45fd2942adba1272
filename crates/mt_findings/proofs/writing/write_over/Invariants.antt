use Rattle.std.proofs.Common.{filter, length, map, take}
use Rattle.mt_terms.specs.Lists.{below}
use Rattle.mt_terms.specs.Verdict.{is_over}
use Rattle.mt_terms.specs.declared.verdict.Verdict.TheVariants.{Over}
use Rattle.mt_first_finding.specs.View.{market_of, places_of}
use Rattle.mt_first_finding.specs.declared.finding.Finding.TheVariants.{Of}
use Rattle.mt_findings.specs.Writing.{Wrote}
use Rattle.mt_findings.proofs.writing.write_over.Given as goal

-- the lines of the programs so far
abbrev pub invariant-loop-number : goal.invariant-loop-number
invariant-loop-number g l =
    Wrote g.W.Write.contents l.roster l.fn.drain l.drain l.fn.lines l.lines (map (λ p. Of (Over p)) (filter (is_over (market_of l.tally) (places_of l.tally)) (take l.number (below (length (market_of l.tally).programs)))))
