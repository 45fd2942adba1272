use Rattle.std.proofs.Common.{◌≡◌, ℕ, List, append_assoc, arith}
use Rattle.std.specs.List.{flat_map}
use Rattle.mt_terms.specs.Lists.{below}
use Rattle.mt_terms.specs.Market.{applicants}
use Rattle.mt_terms.specs.Text.{applicant_line}
use Rattle.mt_terms.proofs.BelowFacts.{flat_map-below_more}
use Rattle.mt_report.proofs.text.push_applicants.Goals as goal

pub loop-number-preserved : goal.loop-number-preserved
loop-number-preserved c =
    let lines : ℕ → List ℕ = applicant_line c.args.roster.now.names c.args.matched.now.places in
    rw (flat_map-below_more lines c.loop-number.number, c.in_ok-push_applicant.ensures.ok, c.loop-number.invariant, c.applicant_id.ensures, c.place_id-place.ensures)
    (append_assoc c.args.text.now.items (flat_map lines (below c.loop-number.number)) (lines c.loop-number.number))

pub returns : goal.returns
returns c =
    let end : c.loop-number.number ≡ applicants c.args.roster.now.market = omega (arith, c.applicants-number-end.ensures.count) in
    record { ok = rw (← end) c.loop-number.invariant }
