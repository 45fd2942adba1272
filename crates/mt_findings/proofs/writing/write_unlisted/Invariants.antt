use Rattle.std.proofs.Common.{filter, map, take}
use Rattle.mt_terms.specs.Lists.{below}
use Rattle.mt_terms.specs.Market.{applicants}
use Rattle.mt_terms.specs.Verdict.{is_unlisted}
use Rattle.mt_terms.specs.declared.verdict.Verdict.TheVariants.{Unlisted}
use Rattle.mt_first_finding.specs.declared.finding.Finding.TheVariants.{Of}
use Rattle.mt_findings.specs.Writing.{Wrote}
use Rattle.mt_findings.proofs.writing.write_unlisted.Given as goal

-- the lines of the applicants so far
abbrev pub invariant-loop-number : goal.invariant-loop-number
invariant-loop-number g l =
    let r = l.tables.registered in
    Wrote g.W.Write.contents r l.fn.drain l.drain l.fn.lines l.lines (map (λ a. Of (Unlisted a)) (filter (is_unlisted r.market l.tables.places) (take l.number (below (applicants r.market)))))
