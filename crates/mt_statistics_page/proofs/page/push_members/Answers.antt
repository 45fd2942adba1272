use Rattle.mt_statistics_page.specs.Charts.{couple_chart}
use Rattle.mt_statistics_page.proofs.AppendFacts.{of_three}
use Rattle.mt_statistics_page.proofs.page.push_members.Goals as goal

pub returns : goal.returns
returns c =
    record {
      ok = of_three c.push_three_chart.result c.args.text.now.items _ couple_chart _ _ _ _ _ _
          c.couples_with-both.ensures c.couples_with-one.ensures c.couples_with-neither.ensures
          c.push_three_chart.ensures.ok;
    }
