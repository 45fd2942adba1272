use Rattle.std.specs.Prelude.{codes}
use Rattle.mt_statistics_page.specs.Pieces.{cell, posts_cells, rank_cell}
use Rattle.mt_statistics_page.proofs.AppendFacts.{four}
use Rattle.mt_statistics_page.proofs.pieces.push_standing.Goals as goal

pub returns : goal.returns
returns c =
    record {
      ok = four c.args.text.now.items _ _ _ _
          (posts_cells c.args.id.now c.args.standing.quota c.args.standing.filled) (cell c.args.standing.listed) (rank_cell c.args.standing.last)
          (codes "</tr>\n")
          c.in_ok-push_posts.ensures.ok c.in_ok-push_cell.ensures.ok c.in_ok-push_rank_cell.ensures.ok
          c.in_ok-extend_from_slice.ensures.items;
    }
