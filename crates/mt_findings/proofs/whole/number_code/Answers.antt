use Rattle.std.proofs.Common.{◌≡◌, ◌<◌, ℕ, zero, suc, refl, arith}
use Rattle.mt_findings.specs.Answer.{number_code}
use Rattle.mt_findings.proofs.whole.number_code.Goals as goal

some_is_one : (n : ℕ) → 0 < n → 1 ≡ number_code n
some_is_one zero some = absurd (omega arith)
some_is_one (suc n) some = refl

pub returns-else-findings-eq0 : goal.returns-else-findings-eq0
returns-else-findings-eq0 c = some_is_one c.args.findings (omega (arith, c.if-findings-eq0.false))
