use Rattle.std.proofs.Common.{refl, ◌∙◌}
use Rattle.mt_ids.proofs.IdFacts.{missing_id}
use Rattle.mt_numbered.proofs.NumberFacts.{no_number}
use Rattle.mt_numbered.proofs.numbered.Numbered.number.Goals as goal

pub returns-in_err-place : goal.returns-in_err-place
returns-in_err-place g c =
    c.from_residual.ensures
    ∙ no_number g.T.Number.at _ c.args.self.now _ _ refl c.self.view_is c.self.invariant c.args.id.now (missing_id c.self.inside.ids c.args.id.now c.in_err-place.ensures)
