use Rattle.std.proofs.Common.{◌≡◌, ◌<◌, ℕ, List, append_assoc, arith, ap, ◌∙◌, length, get_or}
use Rattle.std.specs.List.{flat_map}
use Rattle.mt_terms.specs.Lists.{below}
use Rattle.mt_terms.specs.Matching.{filled}
use Rattle.mt_terms.specs.Text.{program_line}
use Rattle.mt_terms.proofs.BelowFacts.{flat_map-below_more, length-map_below, map_below_at}
use Rattle.mt_report.proofs.text.push_programs.Goals as goal

pub bounds-counts-at : goal.bounds-counts-at
bounds-counts-at c =
    omega (arith, ap length c.requires.counts, length-map_below (filled c.args.matched.now.places) (length c.args.roster.now.market.programs), c.programs-number-end.ensures.count)

pub loop-number-preserved : goal.loop-number-preserved
loop-number-preserved c =
    let lines : ℕ → List ℕ = program_line c.args.roster.now.market c.args.roster.now.names c.args.matched.now.places c.args.received.now in
    let within : c.loop-number.number < length c.args.roster.now.market.programs = omega (arith, c.programs-number-end.ensures.count) in
    let counted : get_or c.args.counts.now c.loop-number.number 0 ≡ filled c.args.matched.now.places c.loop-number.number =
    ap (λ xs. get_or xs c.loop-number.number 0) c.requires.counts ∙ map_below_at (filled c.args.matched.now.places) (length c.args.roster.now.market.programs) c.loop-number.number 0 within in
    rw (flat_map-below_more lines c.loop-number.number, c.in_ok-push_program.ensures.ok, c.loop-number.invariant, c.index-at.ensures, c.program_id.ensures, c.quota.ensures, counted)
    (append_assoc c.args.text.now.items (flat_map lines (below c.loop-number.number)) (lines c.loop-number.number))
