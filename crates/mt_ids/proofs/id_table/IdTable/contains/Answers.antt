use Rattle.std.proofs.Common.{◌∙◌, ap, is_some}
use Rattle.std.specs.Prelude.{bytes_eq}
use Rattle.mt_terms.specs.Registration.Ids.{has_id}
use Rattle.mt_ids.proofs.SetFacts.{is_some-position}
use Rattle.mt_ids.proofs.id_table.IdTable.contains.Goals as goal

pub returns : goal.returns
returns c =
    let ids = c.self.inside.set.ids in
    c.is_some.ensures ∙ ap is_some c.place.ensures ∙ is_some-position (bytes_eq c.args.id.now) ids ∙ ap (λ ids. has_id ids c.args.id.now) c.self.view_is
