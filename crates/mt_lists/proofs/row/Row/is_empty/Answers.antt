use Rattle.std.proofs.Common.{◌≡◌, ◌∙◌}
use Rattle.mt_lists.specs.Sources.{row_fields}
use Rattle.mt_lists.proofs.FieldFacts.{trimmed-empty}
use Rattle.mt_lists.proofs.row.Row.is_empty.Goals as goal

pub returns-in-Line : goal.returns-in-Line
returns-in-Line c =
    let fields : row_fields c.self.inside.source ≡ c.args.self.now = c.self.view_is in
    rw (← fields, c.in-Line.is) (c.is_empty.ensures ∙ trimmed-empty c.in-Line.line.now)
