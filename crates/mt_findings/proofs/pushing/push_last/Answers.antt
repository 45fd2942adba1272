use Rattle.std.proofs.Common.{◌≡◌, ◌<◌, ◌++◌, ◌∙◌, ℕ, zero, suc, List, refl, ap, sym, arith}
use Rattle.mt_findings.specs.Text.{last_line, number_line}
use Rattle.mt_findings.proofs.pushing.push_last.Goals as goal

last_is : (aside n : ℕ) → 0 < n → last_line aside n ≡ number_line n
last_is aside zero some = absurd (omega arith)
last_is aside (suc n) some = refl

pub returns-else-findings-eq0 : goal.returns-else-findings-eq0
returns-else-findings-eq0 c =
    let some : 0 < c.args.findings = omega (arith, c.if-findings-eq0.false) in
    c.push_number.ensures ∙ ap (λ (text : List ℕ). c.args.page.now ++ text) (sym (last_is c.args.aside c.args.findings some))
