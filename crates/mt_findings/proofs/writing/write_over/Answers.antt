use Rattle.std.proofs.Common.{◌<◌, length, refl, ap, arith}
use Rattle.mt_terms.specs.Lists.{below}
use Rattle.mt_terms.specs.Market.{Market}
use Rattle.mt_terms.specs.Verdict.{is_over}
use Rattle.mt_terms.specs.declared.verdict.Verdict.TheVariants.{Over}
use Rattle.mt_first_finding.specs.View.{market_of, places_of}
use Rattle.mt_first_finding.specs.declared.finding.Finding.TheVariants.{Of}
use Rattle.mt_pages.proofs.SendingFacts.{on_err}
use Rattle.mt_findings.proofs.LoopFacts.{below_place, below_taken, failed_in, room_in, wrote_in}
use Rattle.mt_findings.proofs.writing.write_over.Goals as goal

pub write_if-requires-clause-count : goal.write_if-requires-clause-count
write_if-requires-clause-count g c =
    let t = c.args.tally.now in
    let i = c.loop-number.number in
    let n = length (market_of t).programs in
    let below_n : i < n = omega (arith, c.loop-number-test.true, c.programs-number-end.ensures.count, ap (λ (m : Market). length m.programs) c.requires.market) in
    let place = below_place n i below_n in
    room_in (λ p. Of (Over p)) (is_over (market_of t) (places_of t)) (below n) i i c.is_over-is_so.result c.is_over-is_so.ensures place.0 place.1 _ _ c.loop-number.invariant.counted c.requires.count

pub returns-in_err-write_if-clause-failed : goal.returns-in_err-write_if-clause-failed
returns-in_err-write_if-clause-failed g c =
    let t = c.args.tally.now in
    let i = c.loop-number.number in
    let n = length (market_of t).programs in
    let below_n : i < n = omega (arith, c.loop-number-test.true, c.programs-number-end.ensures.count, ap (λ (m : Market). length m.programs) c.requires.market) in
    let place = below_place n i below_n in
    on_err _
    (failed_in (λ p. Of (Over p)) (is_over (market_of t) (places_of t)) (below n) i i c.is_over-is_so.result c.is_over-is_so.ensures place.0 place.1
    g.W.Write.contents c.args.roster.now _ refl _ _ _ _ _ _ c.loop-number.invariant c.in_err-write_if.ensures.failed)

pub loop-number-preserved : goal.loop-number-preserved
loop-number-preserved g c =
    let t = c.args.tally.now in
    let i = c.loop-number.number in
    let n = length (market_of t).programs in
    let below_n : i < n = omega (arith, c.loop-number-test.true, c.programs-number-end.ensures.count, ap (λ (m : Market). length m.programs) c.requires.market) in
    let place = below_place n i below_n in
    wrote_in (λ p. Of (Over p)) (is_over (market_of t) (places_of t)) (below n) i i c.is_over-is_so.result c.is_over-is_so.ensures place.0 place.1
    g.W.Write.contents c.args.roster.now _ refl _ _ _ _ _ _ c.loop-number.invariant c.in_ok-write_if.ensures.wrote

pub returns-clause-wrote : goal.returns-clause-wrote
returns-clause-wrote g c =
    let n = length (market_of c.args.tally.now).programs in
    rw (← below_taken n c.loop-number.number (omega (arith, c.loop-number-test.false, c.programs-number-end.ensures.count, ap (λ (m : Market). length m.programs) c.requires.market)))
    c.loop-number.invariant
