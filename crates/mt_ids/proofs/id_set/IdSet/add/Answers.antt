use Rattle.std.proofs.Common.{◌∙◌, not, ap}
use Rattle.mt_terms.specs.Registration.Ids.{has_id}
use Rattle.mt_ids.specs.Sets.{SeededIds, with_id}
use Rattle.mt_ids.proofs.SetFacts.{ids_of, new_word, with_word}
use Rattle.mt_ids.proofs.id_set.IdSet.add.Goals as goal

pub invariant_of-self-then-id-le-MOST_IN_WORD : goal.invariant_of-self-then-id-le-MOST_IN_WORD
invariant_of-self-then-id-le-MOST_IN_WORD c =
    let s = c.self.inside in
    let added = with_word (ids_of s.longer.items) s.words.keys _ _ c.self.invariant c.args.id.now _ _ c.word_of.ensures c.if-id-le-MOST_IN_WORD.true c.in_ok-is_new.ensures.keys in
    added.0

pub returns-in_ok-is_new-clause-added : goal.returns-in_ok-is_new-clause-added
returns-in_ok-is_new-clause-added c =
    let s = c.self.inside in
    let id = c.args.id.now in
    new_word (ids_of s.longer.items) s.words.keys _ _ c.self.invariant id _ _ c.word_of.ensures c.if-id-le-MOST_IN_WORD.true c.in_ok-is_new.ensures.added
    ∙ ap (λ (s : SeededIds). not (has_id s.ids id)) c.self.view_is

pub returns-in_ok-is_new-clause-ids : goal.returns-in_ok-is_new-clause-ids
returns-in_ok-is_new-clause-ids c =
    let s = c.self.inside in
    let id = c.args.id.now in
    let added = with_word (ids_of s.longer.items) s.words.keys _ _ c.self.invariant id _ _ c.word_of.ensures c.if-id-le-MOST_IN_WORD.true c.in_ok-is_new.ensures.keys in
    added.1 ∙ ap (λ (s : SeededIds). with_id s.ids id) c.self.view_is
