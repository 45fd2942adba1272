use Rattle.std.proofs.Common.{◌++◌, ◌∙◌, ℕ, List, ap}
use Rattle.std.specs.Prelude.{codes}
use Rattle.mt_findings.proofs.pushing.push_number.Goals as goal

pub returns : goal.returns
returns c =
    c.push_one.ensures
    ∙ ap (λ (digits : List ℕ). c.args.page.now ++ (c.args.front.now ++ (codes "," ++ (digits ++ codes "\n")))) (c.as_bytes.ensures.value ∙ c.format.ensures.text)
