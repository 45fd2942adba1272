use Rattle.std.proofs.Common.{◌∙◌, Vec, [], ap, sym}
use Rattle.mt_statistics.specs.Counts.{is_full}
use Rattle.mt_statistics_page.specs.Page.{open_row, program_row}
use Rattle.mt_statistics_page.proofs.AppendFacts.{left_out, one_more, put_in}
use Rattle.mt_statistics_page.proofs.page.push_open_rows.Goals as goal
use Rattle.mt_statistics_page.proofs.page.push_open_rows.Goals.{then-not-is_full+in_ok-push_program_row, else-not-is_full}

pub loop-number-preserved : goal.loop-number-preserved
loop-number-preserved c =
    let r = c.args.statistics.now.registered in
    let places = c.args.statistics.now.places in
    let number = c.loop-number.number in
    let row = program_row r places number in
    one_more c.args.text.now.items _ _ (open_row r places) number c.loop-number.invariant
    (elim c.if-not-is_full.branch [
      | then-not-is_full+in_ok-push_program_row w ↦
          put_in c.loop-number.text.items _ [] row (is_full r.market places number) (sym c.is_full.ensures ∙ w.if-not-is_full.true)
          (ap Vec.items w.text-is ∙ w.in_ok-push_program_row.ensures.ok)
      | else-not-is_full w ↦
          left_out c.loop-number.text.items _ row (is_full r.market places number) (sym c.is_full.ensures ∙ w.if-not-is_full.false)
          (ap Vec.items w.text-is)
    ])
