use Rattle.mt_statistics_page.specs.Page.{open_rows}
use Rattle.mt_statistics_page.specs.declared.markup.TheConstants.{OPEN_POSTS, TABLE_END}
use Rattle.mt_statistics_page.proofs.AppendFacts.{three}
use Rattle.mt_statistics_page.proofs.page.push_open_table.Goals as goal

pub returns : goal.returns
returns c =
    record {
      ok = three c.args.text.now.items _ _ _
          OPEN_POSTS.now (open_rows c.args.statistics.now.registered c.args.statistics.now.places) TABLE_END.now
          c.in_ok-push_text.ensures.ok c.in_ok-push_open_rows.ensures.ok c.in_ok-push_text-2.ensures.ok;
    }
