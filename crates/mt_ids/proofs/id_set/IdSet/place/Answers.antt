use Rattle.std.proofs.Common.{◌∙◌, ap}
use Rattle.std.specs.Prelude.{bytes_eq, nat_eq, position}
use Rattle.mt_ids.specs.Sets.{SeededIds}
use Rattle.mt_ids.proofs.id_set.IdSet.place.Goals as goal

pub returns-then-id-le-MOST_IN_WORD : goal.returns-then-id-le-MOST_IN_WORD
returns-then-id-le-MOST_IN_WORD c =
    let id = c.args.id.now in
    let word = c.word_of.ensures in
    c.get_index_of.ensures.index ∙ ap (λ word. position (nat_eq word) c.self.inside.words.keys) word.0
    ∙ c.self.invariant.short id word.1 c.if-id-le-MOST_IN_WORD.true ∙ ap (λ (s : SeededIds). position (bytes_eq id) s.ids) c.self.view_is
