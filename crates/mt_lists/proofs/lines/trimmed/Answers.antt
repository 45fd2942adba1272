use Rattle.std.proofs.Common.{◌≡◌, ◌++◌, ◌∷◌, [], ◌==◌, ◌∙◌, length, false, ap, sym, arith, rules}
use Rattle.std.proofs.lemmas.Bool.Decides.{nat_tests}
use Rattle.mt_lists.proofs.FieldFacts.{trimmed-comma, trimmed-none, trimmed-other}
use Rattle.mt_lists.proofs.lines.trimmed.Goals as goal

pub returns-then-last-ne44 : goal.returns-then-last-ne44
returns-then-last-ne44 c =
    let parts : c.loop-last.kept.now ≡ c.in-Some.front.now ++ (c.in-Some.last.now ∷ []) = search rules in
    let other : (c.in-Some.last.now == 44) ≡ false = grind (arith, nat_tests, c.if-last-ne44.true) in
    trimmed-other c.loop-last.kept.now c.in-Some.front.now c.in-Some.last.now parts other ∙ sym c.loop-last.invariant

pub loop-last-preserved : goal.loop-last-preserved
loop-last-preserved c =
    let comma : c.in-Some.last.now ≡ 44 = search rules in
    let parts : c.loop-last.kept.now ≡ c.in-Some.front.now ++ (c.in-Some.last.now ∷ []) = search rules in
    c.loop-last.invariant ∙ trimmed-comma c.loop-last.kept.now c.in-Some.front.now (parts ∙ ap (λ b. c.in-Some.front.now ++ (b ∷ [])) comma)

pub returns : goal.returns
returns c =
    let none : length c.loop-last.kept.now ≡ 0 = search rules in
    trimmed-none c.loop-last.kept.now none ∙ sym c.loop-last.invariant
