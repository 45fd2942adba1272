use Rattle.std.proofs.Common.{ap, ◌∙◌, ◌++◌, ℕ, List, take}
use Rattle.mt_statistics_page.specs.Pieces.{numbered_rows}
use Rattle.mt_statistics_page.specs.Charts.{later_row}
use Rattle.mt_statistics_page.specs.declared.markup.TheConstants.{FIRST}
use Rattle.mt_statistics_page.proofs.AppendFacts.{two}
use Rattle.mt_statistics_page.proofs.charts.push_numbers.Goals as goal

pub returns : goal.returns
returns c =
    record {
      ok = two c.args.text.now.items _ _
          (numbered_rows (take FIRST c.args.counts.now) c.args.most)
          (later_row c.args.counts.now c.args.later c.args.most)
          (c.in_ok-push_numbered_rows.ensures.ok ∙ ap (λ (first : List ℕ). c.args.text.now.items ++ numbered_rows first c.args.most) c.first.ensures) c.in_ok-push_later.ensures.ok;
    }
