use Rattle.std.proofs.Common.{ap, ◌∙◌}
use Rattle.std.specs.Prelude.{codes}
use Rattle.mt_terms.specs.Market.{Registered, applicants}
use Rattle.mt_statistics_page.specs.Pieces.{total_row}
use Rattle.mt_statistics_page.proofs.AppendFacts.{three_same}
use Rattle.mt_statistics_page.proofs.page.push_first_totals.Goals as goal

pub returns : goal.returns
returns c =
    record {
      ok = three_same c.args.text.now.items _ _ _ _ _ _ _ _ _
          (ap (total_row (codes "applicants")) (c.from-all.ensures ∙ c.applicants.ensures.count ∙ ap (λ (r : Registered). applicants r.market) c.roster.ensures))
          (ap (total_row (codes "applicants with a place")) (c.filled_posts.ensures))
          (ap (total_row (codes "singles without a place")) (c.from-unmatched.ensures ∙ c.unmatched_singles.ensures))
          c.in_ok-push_total.ensures.ok c.in_ok-push_total-2.ensures.ok c.in_ok-push_total-3.ensures.ok;
    }
