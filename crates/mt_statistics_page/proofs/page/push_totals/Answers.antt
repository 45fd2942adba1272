use Rattle.mt_statistics_page.specs.Page.{first_totals, last_totals}
use Rattle.mt_statistics_page.specs.declared.markup.TheConstants.{TABLE_END, TOTALS}
use Rattle.mt_statistics_page.proofs.AppendFacts.{four}
use Rattle.mt_statistics_page.proofs.page.push_totals.Goals as goal

pub returns : goal.returns
returns c =
    record {
      ok = four c.args.text.now.items _ _ _ _
          TOTALS.now (first_totals c.args.statistics.now.registered.market c.args.statistics.now.places)
          (last_totals c.args.statistics.now.registered.market c.args.statistics.now.places) TABLE_END.now
          c.in_ok-push_text.ensures.ok c.in_ok-push_first_totals.ensures.ok c.in_ok-push_last_totals.ensures.ok
          c.in_ok-push_text-2.ensures.ok;
    }
