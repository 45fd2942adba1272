use Rattle.std.proofs.Common.{◌∙◌, ap}
use Rattle.mt_terms.specs.Market.{Registered}
use Rattle.mt_terms.specs.Text.{name_of}
use Rattle.mt_statistics_page.specs.Pieces.{standing_row}
use Rattle.mt_statistics_page.proofs.AppendFacts.{of_two}
use Rattle.mt_statistics_page.proofs.page.push_program_row.Goals as goal

pub returns : goal.returns
returns c =
    record {
      ok = of_two c.push_standing.result c.args.text.now.items _ standing_row _ _ _ _
          (c.program_id-id.ensures ∙ ap (λ (r : Registered). name_of r.names.programs c.args.program) c.roster.ensures)
          c.standing.ensures c.push_standing.ensures.ok;
    }
