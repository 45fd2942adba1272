use Rattle.std.proofs.Common.{◌<◌, ap, arith}
use Rattle.mt_terms.specs.Lists.{below}
use Rattle.mt_terms.specs.Market.{Registered, applicants}
use Rattle.mt_terms.specs.Verdict.{is_unlisted}
use Rattle.mt_terms.specs.declared.verdict.Verdict.TheVariants.{Unlisted}
use Rattle.mt_first_finding.specs.declared.finding.Finding.TheVariants.{Of}
use Rattle.mt_pages.proofs.SendingFacts.{on_err}
use Rattle.mt_findings.proofs.LoopFacts.{below_place, below_taken, failed_in, room_in, wrote_in}
use Rattle.mt_findings.proofs.writing.write_unlisted.Goals as goal

pub write_if-requires-clause-count : goal.write_if-requires-clause-count
write_if-requires-clause-count g c =
    let e = c.args.tables.now in
    let i = c.loop-number.number in
    let n = applicants e.registered.market in
    let below_n : i < n = omega (arith, c.loop-number-test.true, c.applicants-number-end.ensures.count, ap (λ (r : Registered). applicants r.market) c.roster-roster.ensures) in
    let place = below_place n i below_n in
    room_in (λ a. Of (Unlisted a)) (is_unlisted e.registered.market e.places) (below n) i i c.is_unlisted-is_so.result c.is_unlisted-is_so.ensures place.0 place.1 _ _ c.loop-number.invariant.counted c.requires.count

pub returns-in_err-write_if-clause-failed : goal.returns-in_err-write_if-clause-failed
returns-in_err-write_if-clause-failed g c =
    let e = c.args.tables.now in
    let i = c.loop-number.number in
    let n = applicants e.registered.market in
    let below_n : i < n = omega (arith, c.loop-number-test.true, c.applicants-number-end.ensures.count, ap (λ (r : Registered). applicants r.market) c.roster-roster.ensures) in
    let place = below_place n i below_n in
    on_err _
    (failed_in (λ a. Of (Unlisted a)) (is_unlisted e.registered.market e.places) (below n) i i c.is_unlisted-is_so.result c.is_unlisted-is_so.ensures place.0 place.1
    g.W.Write.contents e.registered _ c.roster-roster.ensures _ _ _ _ _ _ c.loop-number.invariant c.in_err-write_if.ensures.failed)

pub loop-number-preserved : goal.loop-number-preserved
loop-number-preserved g c =
    let e = c.args.tables.now in
    let i = c.loop-number.number in
    let n = applicants e.registered.market in
    let below_n : i < n = omega (arith, c.loop-number-test.true, c.applicants-number-end.ensures.count, ap (λ (r : Registered). applicants r.market) c.roster-roster.ensures) in
    let place = below_place n i below_n in
    wrote_in (λ a. Of (Unlisted a)) (is_unlisted e.registered.market e.places) (below n) i i c.is_unlisted-is_so.result c.is_unlisted-is_so.ensures place.0 place.1
    g.W.Write.contents e.registered _ c.roster-roster.ensures _ _ _ _ _ _ c.loop-number.invariant c.in_ok-write_if.ensures.wrote

pub returns-clause-wrote : goal.returns-clause-wrote
returns-clause-wrote g c =
    let n = applicants c.args.tables.now.registered.market in
    rw (← below_taken n c.loop-number.number (omega (arith, c.loop-number-test.false, c.applicants-number-end.ensures.count, ap (λ (r : Registered). applicants r.market) c.roster-roster.ensures)))
    c.loop-number.invariant
