use Rattle.std.proofs.Common.{not, refl, ap}
use Rattle.std.proofs.lemmas.List.{take_all}
use Rattle.mt_match_file.specs.declared.submitted_match.Counted.{Counted}
use Rattle.mt_first_finding.specs.Findings.{fits_count}
use Rattle.mt_first_finding.specs.View.{market_of, places_of}
use Rattle.mt_first_finding.specs.declared.finding.Finding.TheVariants.{Differs}
use Rattle.mt_pages.proofs.SendingFacts.{on_err}
use Rattle.mt_findings.specs.Findings.{differing_of}
use Rattle.mt_findings.proofs.LoopFacts.{failed_in, room_in, wrote_in}
use Rattle.mt_findings.proofs.WritingFacts.{wrote_as}
use Rattle.mt_findings.proofs.writing.write_differing.Goals as goal

pub write_if-requires-clause-count : goal.write_if-requires-clause-count
write_if-requires-clause-count g c =
    let t = c.args.tally.now in
    room_in (λ (x : Counted). Differs x.row) (λ (x : Counted). not (fits_count (market_of t) (places_of t) x.count)) c.args.counts.now c.loop-counted.counted-index c.counted-item.result
    c.differs-is_so.result c.differs-is_so.ensures c.loop-counted-test.true c.counted-item.is _ _ c.loop-counted.invariant.counted c.requires.count

pub returns-in_err-write_if-clause-failed : goal.returns-in_err-write_if-clause-failed
returns-in_err-write_if-clause-failed g c =
    let t = c.args.tally.now in
    on_err _
    (failed_in (λ (x : Counted). Differs x.row) (λ (x : Counted). not (fits_count (market_of t) (places_of t) x.count)) c.args.counts.now c.loop-counted.counted-index c.counted-item.result
    c.differs-is_so.result c.differs-is_so.ensures c.loop-counted-test.true c.counted-item.is g.W.Write.contents c.args.roster.now _ refl _ _ _ _ _ _ c.loop-counted.invariant
    c.in_err-write_if.ensures.failed)

pub loop-counted-preserved : goal.loop-counted-preserved
loop-counted-preserved g c =
    let t = c.args.tally.now in
    wrote_in (λ (x : Counted). Differs x.row) (λ (x : Counted). not (fits_count (market_of t) (places_of t) x.count)) c.args.counts.now c.loop-counted.counted-index c.counted-item.result
    c.differs-is_so.result c.differs-is_so.ensures c.loop-counted-test.true c.counted-item.is g.W.Write.contents c.args.roster.now _ refl _ _ _ _ _ _ c.loop-counted.invariant
    c.in_ok-write_if.ensures.wrote

pub returns-clause-wrote : goal.returns-clause-wrote
returns-clause-wrote g c =
    let t = c.args.tally.now in
    wrote_as g.W.Write.contents c.args.roster.now c.args.roster.now refl _ _ _ _ _ _
    (ap (differing_of (market_of t) (places_of t)) (take_all c.loop-counted.counted-index c.args.counts.now c.loop-counted-test.false)) c.loop-counted.invariant
