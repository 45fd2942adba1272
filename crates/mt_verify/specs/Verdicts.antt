-- What a verdict says.
use Rattle.std.specs.Prelude.{◌≡◌, ◌↔◌, IsTrue}
use Rattle.mt_terms.specs.Market.{Market}
use Rattle.mt_terms.specs.Matching.{Places}
use Rattle.mt_terms.specs.Stability.{stable}
use Rattle.mt_terms.specs.declared.verdict.Verdict.{Verdict}
use Rattle.mt_terms.specs.declared.verdict.Verdict.TheVariants.{Stable}

-- a verdict is that a match is stable exactly if it is
abbrev pub TellsStable : Market → Places → Verdict → Type 0
TellsStable m places verdict = (verdict ≡ Stable) ↔ IsTrue (stable m places)
