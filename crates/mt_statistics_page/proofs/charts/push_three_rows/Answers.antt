use Rattle.mt_statistics_page.specs.Pieces.{bar_row}
use Rattle.mt_statistics_page.proofs.AppendFacts.{three}
use Rattle.mt_statistics_page.proofs.charts.push_three_rows.Goals as goal

pub returns : goal.returns
returns c =
    record {
      ok = three c.args.text.now.items _ _ _
          (bar_row c.args.first.now c.args.counts.first c.args.most)
          (bar_row c.args.second.now c.args.counts.second c.args.most)
          (bar_row c.args.third.now c.args.counts.third c.args.most)
          c.in_ok-push_bar_row.ensures.ok c.in_ok-push_bar_row-2.ensures.ok c.in_ok-push_bar_row-3.ensures.ok;
    }
