use Rattle.std.proofs.Common.{◌≡◌, ◌∙◌, []}
use Rattle.mt_terms.specs.Text.{refused}
use Rattle.mt_app.proofs.refuse.Goals as goal

pub returns : goal.returns
returns g c =
    let line : c.as_bytes.result.now ≡ refused 30 0 [] = c.as_bytes.ensures ∙ c.refused-line.ensures in
    rw line at c.tell.ensures
