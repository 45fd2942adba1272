use Rattle.std.proofs.Common.{◌∙◌, ◌++◌, ℕ, List, [], ◌∷◌, get_or, ap, sym}
use Rattle.std.specs.Prelude.{codes, decimal}
use Rattle.std.proofs.lemmas.List.{append-nil, take_all}
use Rattle.mt_statistics_text.proofs.PieceFacts.{after_commas, one_number, whole_line}
use Rattle.mt_statistics_text.proofs.line.push_line.Goals as goal

pub loop-number-init : goal.loop-number-init
loop-number-init c =
    c.in_ok-extend_from_slice.ensures.items ∙ ap (λ (w : List ℕ). c.args.text.now.items ++ w) (sym (append-nil c.args.word.now))

pub loop-number-preserved : goal.loop-number-preserved
loop-number-preserved c =
    c.in_ok-push_number.ensures.ok
    ∙ ap (λ (so_far : List ℕ). so_far ++ codes "," ++ decimal (get_or c.args.numbers.now c.loop-number.number-index 0)) c.loop-number.invariant
    ∙ one_number c.args.text.now.items c.args.word.now c.args.numbers.now c.loop-number.number-index c.loop-number-test.true

pub returns : goal.returns
returns c = record {
  ok = c.in_ok-push.ensures.items
      ∙ ap (λ (text : List ℕ). text ++ 10 ∷ [])
      (c.loop-number.invariant
      ∙ ap (λ (numbers : List ℕ). c.args.text.now.items ++ (c.args.word.now ++ after_commas numbers))
      (take_all c.loop-number.number-index c.args.numbers.now c.loop-number-test.false))
      ∙ whole_line c.args.text.now.items c.args.word.now c.args.numbers.now;
}
