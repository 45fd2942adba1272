use Rattle.std.proofs.Common.{◌∙◌, ap}
use Rattle.indexmap.specs.IndexMap.{get_by}
use Rattle.std.specs.Prelude.{bytes_eq, position}
use Rattle.mt_ids.specs.Sets.{SeededIds}
use Rattle.mt_ids.specs.Words.{pair_eq}
use Rattle.mt_ids.proofs.id_set.IdSet.longer_place.Goals as goal

pub returns-then-id-le-MOST_IN_PAIR : goal.returns-then-id-le-MOST_IN_PAIR
returns-then-id-le-MOST_IN_PAIR c =
    let id = c.args.id.now in
    let pair = c.pair_of.ensures in
    c.copied.ensures ∙ c.get.ensures.value ∙ ap (λ pair. get_by (pair_eq pair) c.self.inside.pairs) pair.0
    ∙ c.self.invariant.middle id pair.1 c.requires c.if-id-le-MOST_IN_PAIR.true ∙ ap (λ (s : SeededIds). position (bytes_eq id) s.ids) c.self.view_is
