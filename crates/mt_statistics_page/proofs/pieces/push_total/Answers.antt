use Rattle.std.specs.Prelude.{codes}
use Rattle.mt_statistics_page.specs.Pieces.{cell, header}
use Rattle.mt_statistics_page.proofs.AppendFacts.{three}
use Rattle.mt_statistics_page.proofs.pieces.push_total.Goals as goal

pub returns : goal.returns
returns c =
    record {
      ok = three c.args.text.now.items _ _ _ (header c.args.label.now) (cell c.args.count) (codes "</tr>\n")
          c.in_ok-push_header.ensures.ok c.in_ok-push_cell.ensures.ok c.in_ok-extend_from_slice.ensures.items;
    }
