use Rattle.mt_statistics_page.specs.Charts.{program_chart}
use Rattle.mt_statistics_page.proofs.AppendFacts.{of_three}
use Rattle.mt_statistics_page.proofs.page.push_programs.Goals as goal

pub returns : goal.returns
returns c =
    record {
      ok = of_three c.push_three_chart.result c.args.text.now.items _ program_chart _ _ _ _ _ _
          c.program_counts-programs.ensures.full c.program_counts-programs.ensures.partly_filled c.program_counts-programs.ensures.empty
          c.push_three_chart.ensures.ok;
    }
