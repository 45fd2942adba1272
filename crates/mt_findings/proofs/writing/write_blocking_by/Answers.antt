use Rattle.std.proofs.Common.{◌<◌, length, ap, arith}
use Rattle.mt_terms.specs.Lists.{below}
use Rattle.mt_terms.specs.Market.{Registered}
use Rattle.mt_terms.specs.Matching.{better, holds, options}
use Rattle.mt_terms.specs.declared.verdict.Verdict.TheVariants.{Blocks}
use Rattle.mt_terms.proofs.ListFacts.{until-le}
use Rattle.mt_first_finding.specs.declared.finding.Finding.TheVariants.{Of}
use Rattle.mt_pages.proofs.SendingFacts.{on_err}
use Rattle.mt_findings.specs.Findings.{is_taken}
use Rattle.mt_findings.proofs.LoopFacts.{below_place, below_taken, failed_in, room_in, wrote_in}
use Rattle.mt_findings.proofs.writing.write_blocking_by.Goals as goal

pub write_if-requires-clause-there : goal.write_if-requires-clause-there
write_if-requires-clause-there g c =
    let e = c.args.tables.now in
    let agent = c.args.agent.now in
    omega (
      arith,
      c.loop-option-test.true,
      c.better_options-option-end.ensures,
      until-le (holds e.places) (options e.registered.market agent),
      ap (λ (r : Registered). length (options r.market agent)) c.roster-roster.ensures,
    )

pub write_if-requires-clause-count : goal.write_if-requires-clause-count
write_if-requires-clause-count g c =
    let e = c.args.tables.now in
    let agent = c.args.agent.now in
    let i = c.loop-option.option in
    let n = length (better e.registered.market e.places agent) in
    let below_n : i < n = omega (arith, c.loop-option-test.true, c.better_options-option-end.ensures) in
    let place = below_place n i below_n in
    room_in (λ k. Of (Blocks (record { agent = agent; option = k }))) (is_taken e.registered.market e.places agent) (below n) i i c.is_taken-is_so.result c.is_taken-is_so.ensures place.0 place.1 _ _
    c.loop-option.invariant.counted c.requires.count

pub returns-in_err-write_if-clause-failed : goal.returns-in_err-write_if-clause-failed
returns-in_err-write_if-clause-failed g c =
    let e = c.args.tables.now in
    let agent = c.args.agent.now in
    let i = c.loop-option.option in
    let n = length (better e.registered.market e.places agent) in
    let below_n : i < n = omega (arith, c.loop-option-test.true, c.better_options-option-end.ensures) in
    let place = below_place n i below_n in
    on_err _
    (failed_in (λ k. Of (Blocks (record { agent = agent; option = k }))) (is_taken e.registered.market e.places agent) (below n) i i c.is_taken-is_so.result c.is_taken-is_so.ensures place.0 place.1
    g.W.Write.contents e.registered _ c.roster-roster.ensures _ _ _ _ _ _ c.loop-option.invariant c.in_err-write_if.ensures.failed)

pub loop-option-preserved : goal.loop-option-preserved
loop-option-preserved g c =
    let e = c.args.tables.now in
    let agent = c.args.agent.now in
    let i = c.loop-option.option in
    let n = length (better e.registered.market e.places agent) in
    let below_n : i < n = omega (arith, c.loop-option-test.true, c.better_options-option-end.ensures) in
    let place = below_place n i below_n in
    wrote_in (λ k. Of (Blocks (record { agent = agent; option = k }))) (is_taken e.registered.market e.places agent) (below n) i i c.is_taken-is_so.result c.is_taken-is_so.ensures place.0 place.1
    g.W.Write.contents e.registered _ c.roster-roster.ensures _ _ _ _ _ _ c.loop-option.invariant c.in_ok-write_if.ensures.wrote

pub returns-clause-wrote : goal.returns-clause-wrote
returns-clause-wrote g c =
    let e = c.args.tables.now in
    let n = length (better e.registered.market e.places c.args.agent.now) in
    rw (← below_taken n c.loop-option.option (omega (arith, c.loop-option-test.false, c.better_options-option-end.ensures))) c.loop-option.invariant
