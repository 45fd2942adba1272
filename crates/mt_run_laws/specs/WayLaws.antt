-- Laws of the answer in the ways in which couples may enter.
use Rattle.std.specs.Prelude.{◌≡◌, ◌↔◌, ◌≤◌, ℕ, List, false, IsTrue}
use Rattle.mt_report.specs.declared.ended.TheConstants.{SET_ASIDE}
use Rattle.mt_answer.specs.declared.ways.Ways.{Ways}
use Rattle.mt_run_laws.specs.Answer.{IsAnswer}
use Rattle.mt_run_laws.specs.Headline.{IsStableText}
use Rattle.mt_run_laws.specs.Ways.{IsAnswerIn, IsStableAsideText}

-- bytes, a budget and the ways have one answer, in which no number of workers or processors occurs
abbrev pub OneAnswerIn : Type 0
OneAnswerIn =
    (bytes : List ℕ) (budget : ℕ) (ways : Ways) (c d : ℕ) (text other : List ℕ)
    → IsAnswerIn bytes budget ways c text → IsAnswerIn bytes budget ways d other → (c ≡ d) × (text ≡ other)

-- with one order, and no couple set aside, the answer is the usual one
abbrev pub OneWayIsAnswer : Type 0
OneWayIsAnswer =
    (bytes : List ℕ) (budget code : ℕ) (text : List ℕ)
    → IsAnswerIn bytes budget (record { orders = 1; set_aside = false }) code text ↔ IsAnswer bytes budget code text

-- What is published is the text of a match stable by the lists in the bytes. If couples are set aside, they want nothing
-- in it, and it was asked for.
abbrev pub PublishedInIsStable : Type 0
PublishedInIsStable =
    (bytes : List ℕ) (budget : ℕ) (ways : Ways) (code : ℕ) (text : List ℕ) → 1 ≤ ways.orders → IsAnswerIn bytes budget ways code text
    → (code ≡ 0 → IsStableText bytes text) × (code ≡ SET_ASIDE → IsTrue ways.set_aside × IsStableAsideText bytes text)
