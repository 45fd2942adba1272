use Rattle.mt_statistics_page.specs.Pieces.{bar_name, bar_shape}
use Rattle.mt_statistics_page.proofs.AppendFacts.{two}
use Rattle.mt_statistics_page.proofs.pieces.push_bar.Goals as goal

pub returns : goal.returns
returns c =
    record {
      ok = two c.args.text.now.items _ _ (bar_name c.args.count) (bar_shape c.args.count c.args.most)
          c.in_ok-push_name.ensures.ok c.in_ok-push_shape.ensures.ok;
    }
