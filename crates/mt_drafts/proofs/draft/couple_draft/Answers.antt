use Rattle.std.proofs.Common.{◌≡◌, List, ◌∷◌, drop, map, ap, sym, ◌∙◌, arith}
use Rattle.mt_lists.specs.Rows.{fields_left}
use Rattle.mt_terms.specs.Registration.Ids.{Bytes}
use Rattle.mt_terms.specs.Registration.Records.{pair_of}
use Rattle.mt_terms.specs.Lists.{by_twos}
use Rattle.mt_records.specs.Fields.{first_two}
use Rattle.mt_drafts.proofs.CoupleFacts.{odd_list, even_list}
use Rattle.mt_drafts.proofs.draft.couple_draft.Goals as goal

-- three fields and those after them
three_on : (all one two three : List Bytes) (id a b : Bytes) → all ≡ id ∷ one → one ≡ a ∷ two → two ≡ b ∷ three → all ≡ id ∷ a ∷ b ∷ three
three_on all one two three id a b first second third =
    first ∙ ap (λ (list : List Bytes). id ∷ list) (second ∙ ap (λ (list : List Bytes). a ∷ list) third)

pub returns-then-len-eq1 : goal.returns-then-len-eq1
returns-then-len-eq1 c =
    odd_list c.args.rules.now (fields_left c.args.fields) _ _ _ (fields_left c.next-3.new.self)
    (three_on _ _ _ _ _ _ _ c.in_ok-id.ensures.steps c.in_ok-first.ensures.steps c.in_ok-second.ensures.steps) (omega (arith, c.len.ensures, c.if-len-eq1.true))

pub returns : goal.returns
returns c =
    let after = c.in_ok-first.ensures.steps ∙ ap (λ (list : List Bytes). c.in_ok-first.first.now ∷ list) c.in_ok-second.ensures.steps in
    even_list c.args.rules.now (fields_left c.args.fields) _ _ _ (fields_left c.next-3.new.self)
    (three_on _ _ _ _ _ _ _ c.in_ok-id.ensures.steps c.in_ok-first.ensures.steps c.in_ok-second.ensures.steps) (omega (arith, c.len.ensures, c.if-len-eq1.false))
    (sym c.names_are_ids.ensures ∙ c.if-not-names_are_ids.false) _ _
    (c.new-fields.ensures.members ∙ ap (λ (list : List Bytes). first_two (by_twos list)) after)
    (c.new-fields.ensures.pairs ∙ ap (λ (list : List Bytes). map pair_of (drop 1 (by_twos list))) after)
