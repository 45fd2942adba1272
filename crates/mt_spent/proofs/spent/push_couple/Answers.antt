use Rattle.std.proofs.Common.{◌++◌, ◌∙◌, ap}
use Rattle.std.proofs.lemmas.List.{append_assoc}
use Rattle.std.specs.Prelude.{codes}
use Rattle.mt_spent.proofs.spent.push_couple.Goals as goal

-- src/spent.rt:97:1
pub returns : goal.returns
returns c =
    let old = c.args.line.now.items in
    let id = c.args.id.now in
    let first = codes "nrmatch: couple " in
    let third = codes " was entering" in
    let words = c.order_words.result.now in
    c.in_ok-extend_from_slice-4.ensures.items
    ∙ ap (λ xs. xs ++ words) (c.in_ok-extend_from_slice-3.ensures.items
    ∙ ap (λ xs. xs ++ third) (c.in_ok-extend_from_slice-2.ensures.items ∙ ap (λ xs. xs ++ id) c.in_ok-extend_from_slice.ensures.items))
    ∙ append_assoc (old ++ first ++ id) third words
    ∙ append_assoc (old ++ first) id (third ++ words)
    ∙ append_assoc old first (id ++ (third ++ words))
    ∙ ap (λ said. old ++ (first ++ (id ++ (third ++ said)))) c.order_words.ensures
