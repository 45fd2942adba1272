use Rattle.std.proofs.Common.{ap, ◌∙◌, length}
use Rattle.std.specs.Prelude.{codes}
use Rattle.mt_terms.specs.Market.{Registered}
use Rattle.mt_statistics_page.specs.Pieces.{total_row}
use Rattle.mt_statistics_page.proofs.AppendFacts.{three_same}
use Rattle.mt_statistics_page.proofs.page.push_last_totals.Goals as goal

pub returns : goal.returns
returns c =
    record {
      ok = three_same c.args.text.now.items _ _ _ _ _ _ _ _ _
          (ap (total_row (codes "couples")) (c.from-couples.ensures ∙ c.couples.ensures.count ∙ ap (λ (r : Registered). length r.market.couples) c.roster.ensures))
          (ap (total_row (codes "programs")) (c.from-programs.ensures ∙ c.programs.ensures.count ∙ ap (λ (r : Registered). length r.market.programs) c.roster-2.ensures))
          (ap (total_row (codes "open posts")) (c.open_posts.ensures))
          c.in_ok-push_total.ensures.ok c.in_ok-push_total-2.ensures.ok c.in_ok-push_total-3.ensures.ok;
    }
