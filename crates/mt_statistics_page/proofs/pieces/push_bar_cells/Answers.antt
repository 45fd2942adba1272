use Rattle.std.proofs.Common.{ap, ◌∙◌, ◌++◌, ℕ}
use Rattle.std.specs.Prelude.{codes}
use Rattle.mt_statistics_page.specs.Pieces.{bar, cell}
use Rattle.mt_statistics_page.proofs.AppendFacts.{four}
use Rattle.mt_statistics_page.proofs.pieces.push_bar_cells.Goals as goal

pub returns : goal.returns
returns c =
    record {
      ok = four c.args.text.now.items _ _ _ _
          (cell c.args.count) (codes "<td class='b'>") (bar c.args.count c.args.most) (codes "</td></tr>\n")
          (c.in_ok-push_cell.ensures.ok ∙ ap (λ (n : ℕ). c.args.text.now.items ++ cell n) c.from.ensures) c.in_ok-extend_from_slice.ensures.items c.in_ok-push_bar.ensures.ok c.in_ok-extend_from_slice-2.ensures.items;
    }
