use Rattle.mt_statistics_page.specs.Charts.{number_rows}
use Rattle.mt_statistics_page.specs.declared.markup.TheConstants.{PAIRS, TABLE_END}
use Rattle.mt_statistics_page.proofs.AppendFacts.{around}
use Rattle.mt_statistics_page.proofs.charts.push_pair_table.Goals as goal

pub returns : goal.returns
returns c =
    record {
      ok = around c.args.text.now.items _ _ _
          PAIRS.now TABLE_END.now (number_rows c.args.counts.now c.args.later) _ _ c.largest_shown-most.ensures
          c.in_ok-push_text.ensures.ok c.in_ok-push_numbers.ensures.ok c.in_ok-push_text-2.ensures.ok;
    }
