use Rattle.mt_statistics_page.specs.Charts.{three_rows}
use Rattle.mt_statistics_page.specs.declared.markup.TheConstants.{TABLE_END}
use Rattle.mt_statistics_page.proofs.AppendFacts.{around}
use Rattle.mt_statistics_page.proofs.charts.push_three_chart.Goals as goal

pub returns : goal.returns
returns c =
    record {
      ok = around c.args.text.now.items _ _ _ c.args.heading.now TABLE_END.now
          (three_rows c.args.first.now c.args.second.now c.args.third.now
          c.args.counts.first c.args.counts.second c.args.counts.third) _ _
          c.three_largest-most.ensures
          c.in_ok-push_text.ensures.ok c.in_ok-push_three_rows.ensures.ok c.in_ok-push_text-2.ensures.ok;
    }
