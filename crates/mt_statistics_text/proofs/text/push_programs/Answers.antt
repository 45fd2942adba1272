use Rattle.std.proofs.Common.{◌≡◌, ◌∙◌, ℕ, List, ap, ap₂, append_assoc}
use Rattle.std.specs.List.{flat_map}
use Rattle.mt_terms.specs.Lists.{below}
use Rattle.mt_terms.specs.Market.{Registered}
use Rattle.mt_terms.specs.Text.{name_of}
use Rattle.mt_terms.proofs.BelowFacts.{flat_map-below_more}
use Rattle.mt_statistics_text.specs.Text.{program_line, standing_line}
use Rattle.mt_statistics_text.proofs.text.push_programs.Goals as goal

pub loop-number-preserved : goal.loop-number-preserved
loop-number-preserved c =
    let number = c.loop-number.number in
    let lines : ℕ → List ℕ = program_line c.args.statistics.now.registered c.args.statistics.now.places in
    let line : standing_line c.program_id-id.result.now c.standing.result ≡ lines number =
    ap₂ standing_line (c.program_id-id.ensures ∙ ap (λ (r : Registered). name_of r.names.programs number) c.roster-in-loop-number.ensures) c.standing.ensures in
    rw (flat_map-below_more lines number, c.in_ok-push_standing.ensures.ok, line, c.loop-number.invariant)
    (append_assoc c.args.text.now.items (flat_map lines (below number)) (lines number))
