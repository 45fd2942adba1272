use Rattle.std.proofs.Common.{◌∙◌, ap, arith, map, [], ◌∷◌, ◌++◌, Bor, List, ℕ}
use Rattle.std.proofs.lemmas.Grind.{common_steps}
use Rattle.std.specs.Prelude.{codes}
use Rattle.std.specs.List.{flat_map}
use Rattle.std.proofs.lemmas.List.{take_all}
use Rattle.mt_report.proofs.LineFacts.{after_comma}
use Rattle.mt_check.proofs.LineFacts.{by_commas}
use Rattle.mt_check.proofs.text.check_line.Goals as goal

pub returns : goal.returns
returns c =
    c.in_ok-push-2.ensures.items
    ∙ ap (λ (text : List ℕ). text ++ 10 ∷ [])
    (c.loop-field.invariant
    ∙ ap (λ (fields : List (Bor (List ℕ))). codes "check,1" ++ flat_map after_comma (map (λ (f : Bor (List ℕ)). f.now) fields))
    (take_all c.loop-field.field-index c.args.fields.now c.loop-field-test.false))
    ∙ by_commas (map (λ (f : Bor (List ℕ)). f.now) c.args.fields.now)

pub loop-field-preserved : goal.loop-field-preserved
loop-field-preserved c = grind (arith, common_steps)
