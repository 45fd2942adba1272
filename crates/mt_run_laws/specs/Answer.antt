-- What a run writes for the bytes that it reads.
use Rattle.std.specs.Prelude.{◌≡◌, ◌≢◌, ℕ, List, Option, MatchResult, Bool}
use Rattle.mt_terms.specs.Registration.Faults.{Fault}
use Rattle.mt_terms.specs.Text.{refused}
use Rattle.mt_terms.specs.declared.codes.TheConstants.{OUT_OF_MEMORY, READ_FAULT}
use Rattle.mt_answer.specs.Answer.{IsAnswerOfMarket}
use Rattle.mt_input.specs.Files.{market_in}
use Rattle.mt_input.specs.Left.{OfLeft}
use Rattle.mt_report.specs.Drains.{IsWritten}
use Rattle.mt_run_laws.specs.Headline.{IsRefusal, IsStableTextOf}

-- the answer to a first fault: its refusal line
pub record IsAnswerOfFault (f : Fault) (code : ℕ) (text : List ℕ) : Type 0 where
  pub same_code : code ≡ f.code
  pub line : text ≡ refused f.code f.row f.id

-- The answer to bytes and a budget, with its code: 0 for a published text, else the refusal's. It is that to the market
-- in the bytes, or to their first fault. (This project's own rule.)
abbrev pub IsAnswer : List ℕ → ℕ → ℕ → List ℕ → Type 0
IsAnswer bytes budget code text =
    MatchResult (market_in bytes) (λ r. IsAnswerOfMarket r budget code text) (λ f. IsAnswerOfFault f code text)

-- the answer to the bytes that a reader had left, or to some bytes if it doesn't tell them
abbrev pub IsAnswerTo : Option (List ℕ) → ℕ → ℕ → List ℕ → Type 0
IsAnswerTo left budget code text = OfLeft left (λ bytes. IsAnswer bytes budget code text)

-- What the text of a run says. If the code is 0, it is that of a stable match. Any other code has one named refusal
-- line. But for want of memory and a read that failed, it is the answer to the bytes that were there to read.
pub record Says (left : Option (List ℕ)) (budget code : ℕ) (text : List ℕ) : Type 0 where
  pub refusal : code ≢ 0 → IsRefusal code text
  pub stable : code ≡ 0 → IsStableTextOf left text
  pub answer : code ≢ OUT_OF_MEMORY → code ≢ READ_FAULT → IsAnswerTo left budget code text

-- What a run did. It wrote the first bytes of a text, and all of it if the writer didn't fail. The text is that of a
-- match stable by the lists in the bytes that were left, or one named refusal line.
pub record Answers (left : Option (List ℕ)) (budget : ℕ) (old new : Option (List ℕ)) (code written : ℕ) (whole : Bool) : Type 0 where
  pub text : List ℕ
  pub is_written : IsWritten text old new written whole
  pub says : Says left budget code text
