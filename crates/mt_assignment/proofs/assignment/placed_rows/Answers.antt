use Rattle.std.proofs.Common.{◌∙◌, ◌<◌, ◌++◌, ◌∷◌, [], length, arith, ap₂, sym, subst}
use Rattle.mt_terms.specs.Matching.{placed_ranks}
use Rattle.mt_terms.proofs.BelowFacts.{map-below_more}
use Rattle.mt_bits.specs.Tables.{told_of}
use Rattle.mt_stage_tables.specs.Ranks.{HasRanks}
use Rattle.mt_stage_tables.proofs.PlacedFacts.{row_is}
use Rattle.mt_assignment.proofs.assignment.placed_rows.Goals as goal

pub loop-number-preserved : goal.loop-number-preserved
loop-number-preserved c =
    let m = c.args.roster.now.market in
    let places = c.args.places.now in
    let table = c.in_ok-table.table in
    let p = c.loop-number.number in
    let known : p < length m.programs = omega (arith, c.programs-programs.ensures.count) in
    let row = c.in_ok-of_row.field-0 in
    let ranks = subst (λ n. HasRanks (told_of table n) row) c.index.ensures (subst (λ told. HasRanks told row) c.row.ensures c.in_ok-of_row.ensures) in
    c.in_ok-push.ensures.items ∙ ap₂ (λ rows r. rows ++ r ∷ []) c.loop-number.invariant (row_is m places table p row c.in_ok-table.ensures.placed known ranks)
    ∙ sym (map-below_more (placed_ranks m places) p)
