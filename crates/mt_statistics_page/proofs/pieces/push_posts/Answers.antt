use Rattle.std.proofs.Common.{ap, refl}
use Rattle.mt_statistics_page.specs.Pieces.{cell, header}
use Rattle.mt_statistics_page.proofs.AppendFacts.{three_same}
use Rattle.mt_statistics_page.proofs.pieces.push_posts.Goals as goal

pub returns : goal.returns
returns c =
    record {
      ok = three_same c.args.text.now.items _ _ _ (header c.args.id.now) (header c.args.id.now) _ _ _ _
          refl (ap cell c.from.ensures) (ap cell c.from-2.ensures)
          c.in_ok-push_header.ensures.ok c.in_ok-push_cell.ensures.ok c.in_ok-push_cell-2.ensures.ok;
    }
