use Rattle.std.specs.Prelude.{codes}
use Rattle.mt_statistics_page.specs.Pieces.{bar_row}
use Rattle.mt_statistics_page.specs.Charts.{choice_rows, number_rows}
use Rattle.mt_statistics_page.specs.declared.markup.TheConstants.{CHOICES, TABLE_END}
use Rattle.mt_statistics_page.proofs.AppendFacts.{around, two}
use Rattle.mt_statistics_page.proofs.charts.push_choice_chart.Goals as goal

pub returns : goal.returns
returns c =
    let most = c.choice_most-most.result in
    record {
      ok = around c.args.text.now.items _ _ _
          CHOICES.now TABLE_END.now (choice_rows c.args.counts.now c.args.later c.args.unmatched) _ _
          c.choice_most-most.ensures
          c.in_ok-push_text.ensures.ok
          (two _ _ _ (number_rows c.args.counts.now c.args.later most) (bar_row (codes "no place") c.args.unmatched most)
          c.in_ok-push_numbers.ensures.ok c.in_ok-push_bar_row.ensures.ok)
          c.in_ok-push_text-2.ensures.ok;
    }
