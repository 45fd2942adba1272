use Rattle.std.specs.Prelude.{decimal}
use Rattle.mt_statistics_page.specs.Pieces.{bar_cells, header}
use Rattle.mt_statistics_page.proofs.AppendFacts.{two}
use Rattle.mt_statistics_page.proofs.pieces.push_numbered.Goals as goal

pub returns : goal.returns
returns c =
    record {
      ok = two c.args.text.now.items _ _ (header (decimal c.args.number)) (bar_cells c.args.count c.args.most)
          c.in_ok-push_between.ensures.ok c.in_ok-push_bar_cells.ensures.ok;
    }
