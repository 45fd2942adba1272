use Rattle.mt_statistics_page.specs.Pieces.{numbered_row}
use Rattle.mt_statistics_page.proofs.AppendFacts.{one_more}
use Rattle.mt_statistics_page.proofs.pieces.push_numbered_rows.Goals as goal

pub loop-at-preserved : goal.loop-at-preserved
loop-at-preserved c =
    one_more c.args.text.now.items _ _ (numbered_row c.args.counts.now c.args.most) c.loop-at.at c.loop-at.invariant c.in_ok-push_numbered.ensures.ok
