use Rattle.std.proofs.Common.{◌≡◌, ◌∙◌, List, [], ◌∷◌, ◌++◌, Bor, not, false, true, ap, sym, subst₂, is_some, length, position, cond, Some, ap₂}
use Rattle.std.proofs.lemmas.List.{length-map}
use Rattle.indexmap.specs.IndexMap.{get_by}
use Rattle.mt_ids.specs.declared.id_set.IdSet.TheInside.{Inside}
use Rattle.std.specs.Prelude.{bytes_eq}
use Rattle.mt_terms.specs.Registration.Ids.{Bytes, has_id}
use Rattle.mt_ids.specs.Sets.{SeededIds, FindsIds}
use Rattle.mt_ids.specs.Words.{ids_in, place_word, pair_eq}
use Rattle.mt_ids.proofs.SetFacts.{ids_of, ids_with, with_middle, with_long, with_place, one_longer, with_new, with_old, is_some-position}
use Rattle.mt_ids.proofs.id_set.IdSet.add_longer.Goals.{then-id-le-MOST_IN_PAIR+in_ok-insert, else-id-le-MOST_IN_PAIR+in_ok-insert-2}
use Rattle.mt_ids.proofs.id_set.IdSet.add_longer.Goals as goal

-- whether the id is one of these, as its look-up says
looked_up : (ids : List Bytes) (id : Bytes) (found : _) (said b : _) → found ≡ position (bytes_eq id) ids → said ≡ is_some found → said ≡ b → has_id ids id ≡ b
looked_up ids id found said b is says at = sym (is_some-position (bytes_eq id) ids) ∙ ap is_some (sym is) ∙ sym says ∙ at

pub returns-then-is_some-clause-added : goal.returns-then-is_some-clause-added
returns-then-is_some-clause-added c =
    ap not (sym (looked_up c.args.self.now.ids c.args.id.now _ _ true c.longer_place.ensures c.is_some.ensures c.if-is_some.true))

pub returns-then-is_some-clause-ids : goal.returns-then-is_some-clause-ids
returns-then-is_some-clause-ids c =
    with_old c.args.self.now.ids c.args.id.now (looked_up c.args.self.now.ids c.args.id.now _ _ true c.longer_place.ensures c.is_some.ensures c.if-is_some.true)

-- what the reserves and the insertion in a map leave of the longer ids and of the words
left : (c : goal.After-push_reserved)
    → (c.if-id-le-MOST_IN_PAIR.self-inside.longer.items ≡ c.self.inside.longer.items) × (c.if-id-le-MOST_IN_PAIR.self-inside.words.keys ≡ c.self.inside.words.keys)
left c = elim c.if-id-le-MOST_IN_PAIR.branch [
  | then-id-le-MOST_IN_PAIR+in_ok-insert w ↦
      (ap (λ (s : Inside). s.longer.items) w.self-inside-is ∙ c.in_ok-reserve.ensures.items, ap (λ (s : Inside). s.words.keys) w.self-inside-is ∙ c.in_ok-reserve-2.ensures.keys)
  | else-id-le-MOST_IN_PAIR+in_ok-insert-2 w ↦
      (ap (λ (s : Inside). s.longer.items) w.self-inside-is ∙ c.in_ok-reserve.ensures.items, ap (λ (s : Inside). s.words.keys) w.self-inside-is ∙ c.in_ok-reserve-2.ensures.keys)
]

-- the longer ids, and the words, with one more
longer_with : (c : goal.After-push_reserved) → ids_of c.push_reserved.new.self.items ≡ ids_of c.self.inside.longer.items ++ c.args.id.now ∷ []
longer_with c = ids_with c.self.inside.longer.items _ _ c.args.id (left c).0 c.push_reserved.ensures.items

words_with : (c : goal.After-push_reserved) → c.insert-2.new.self.keys ≡ c.self.inside.words.keys ++ place_word (length (ids_of c.self.inside.longer.items)) ∷ []
words_with c =
    let held = c.self.inside in
    let place = c.len.ensures ∙ c.if-id-le-MOST_IN_PAIR.self-inside.longer.ok.0 ∙ ap (λ (ids : List (Bor Bytes)). length ids) (left c).0
    ∙ sym (length-map held.longer.items (λ (id : Bor Bytes). id.now)) in
    with_place (ids_of held.longer.items) held.words.keys _ _ c.self.invariant c.args.id.now _ _ _ _ (left c).1 c.place_word.ensures place c.in_ok-insert-3.ensures.keys

pub invariant_of-self-2 : goal.invariant_of-self-2
invariant_of-self-2 c =
    let id = c.args.id in
    let held = c.self.inside in
    let place = c.len-place.ensures.len in
    let new = ap (λ (s : SeededIds). has_id s.ids id.now) c.self.view_is
    ∙ looked_up c.args.self.now.ids id.now _ _ false c.longer_place.ensures c.is_some.ensures c.if-is_some.false in
    subst₂ (λ longer words. FindsIds (ids_in longer words) longer words (λ pair. get_by (pair_eq pair) c.if-id-le-MOST_IN_PAIR.self-inside.pairs) (λ id. get_by (λ (key : Bor Bytes). bytes_eq id key.now) c.if-id-le-MOST_IN_PAIR.self-inside.long))
    (sym (longer_with c)) (sym (words_with c))
    (elim c.if-id-le-MOST_IN_PAIR.branch [
      | then-id-le-MOST_IN_PAIR+in_ok-insert w ↦
          let is = w.self-inside-is in
          let pair = w.pair_of.ensures in
          with_middle (ids_of held.longer.items) held.words.keys _ _ c.self.invariant id.now pair.1 c.requires w.if-id-le-MOST_IN_PAIR.true new _ _
          (λ p. ap (λ (s : Inside). get_by (pair_eq p) s.pairs) is ∙ w.in_ok-insert.ensures.updates.0 p
          ∙ ap₂ (λ q n. cond (pair_eq q p) (Some n) (get_by (pair_eq p) held.pairs)) pair.0 place)
          (λ i. ap (λ (s : Inside). get_by (λ (key : Bor Bytes). bytes_eq i key.now) s.long) is)
      | else-id-le-MOST_IN_PAIR+in_ok-insert-2 w ↦
          let is = w.self-inside-is in
          with_long (ids_of held.longer.items) held.words.keys _ _ c.self.invariant id.now w.if-id-le-MOST_IN_PAIR.false new _ _
          (λ p. ap (λ (s : Inside). get_by (pair_eq p) s.pairs) is)
          (λ i. ap (λ (s : Inside). get_by (λ (key : Bor Bytes). bytes_eq i key.now) s.long) is ∙ w.in_ok-insert-2.ensures.updates.0 (record { ref_ptr = id.ref_ptr; now = i })
          ∙ ap (λ n. cond (bytes_eq id.now i) (Some n) (get_by (λ (key : Bor Bytes). bytes_eq i key.now) held.long)) place)
    ])

pub returns-clause-added : goal.returns-clause-added
returns-clause-added c =
    ap not (sym (looked_up c.args.self.now.ids c.args.id.now _ _ false c.longer_place.ensures c.is_some.ensures c.if-is_some.false))

pub returns-clause-ids : goal.returns-clause-ids
returns-clause-ids c =
    let id = c.args.id.now in
    let held = c.self.inside in
    let new = looked_up c.args.self.now.ids id _ _ false c.longer_place.ensures c.is_some.ensures c.if-is_some.false in
    ap₂ ids_in (longer_with c) (words_with c) ∙ one_longer (ids_of held.longer.items) held.words.keys _ _ c.self.invariant id
    ∙ ap (λ (s : SeededIds). s.ids ++ id ∷ []) c.self.view_is ∙ with_new c.args.self.now.ids id new
