-- Laws of the answer.
use Rattle.std.specs.Prelude.{◌≡◌, ◌≢◌, ℕ, List}
use Rattle.mt_files.specs.Answer.{OneAnswerBy}
use Rattle.mt_reported.specs.Answer.{IsAnswer, answer_to}
use Rattle.mt_reported.specs.Headline.{IsRefusal, IsReported}
use Rattle.mt_reported.specs.declared.form.Form.{Form}

-- the bytes of two files have one answer in each form
abbrev pub OneAnswer : Type 0
OneAnswer = (form : Form) → OneAnswerBy (answer_to form)

-- an answer with code 0 has the numbers of the match, and every other one is a named refusal
abbrev pub AnswersAreSo : Type 0
AnswersAreSo = (form : Form) (market_bytes match_bytes : List ℕ) (code : ℕ) (text : List ℕ) → IsAnswer form market_bytes match_bytes code text
    → (code ≡ 0 → IsReported form market_bytes match_bytes text) × (code ≢ 0 → IsRefusal code text)
