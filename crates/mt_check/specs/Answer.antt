-- The answer to the bytes of a market and of a match, and what a check did.
use Rattle.std.specs.Prelude.{◌≢◌, ℕ, ◌<◌, ◌≤◌, Bool, List, Option}
use Rattle.mt_terms.specs.declared.codes.TheConstants.{OUT_OF_MEMORY, READ_FAULT}
use Rattle.mt_report.specs.Drains.{IsWritten}
use Rattle.mt_files.specs.Answer.{IsAnswerBy}
pub use Rattle.mt_files.specs.Answer.{Answer}
use Rattle.mt_files.specs.Refusals.{IsInTurn, OfBoth}
pub use Rattle.mt_judged.specs.Answer.{answer_to, finding_answer, judged_answer}
use Rattle.mt_judged.specs.Refusals.{IsRefusal}
use Rattle.mt_check.specs.Headline.{IsJudged}
use Rattle.mt_check.specs.declared.found.Found.{Found}

-- A code and a line as the code has them. The code is 0 for a stable match, 1 for a finding, and else that of a refusal.
abbrev pub answer_seen : Found → Answer
answer_seen f = record { text = f.text.items; code = f.code }

abbrev pub IsAnswer : List ℕ → List ℕ → ℕ → List ℕ → Type 0
IsAnswer = IsAnswerBy answer_to

-- What the line of a check says that made this number of reads of the match. If the code is 0 or 1, it says what is so
-- of the match that was read. Any other code has one named refusal line, of the file whose turn it is. But for want of
-- memory and a read that failed, it is the answer to the bytes that were there to read.
pub record Says (market matched : Option (List ℕ)) (reads code : ℕ) (text : List ℕ) : Type 0 where
  pub judged : code ≤ 1 → OfBoth market matched (λ market_bytes match_bytes. IsJudged market_bytes match_bytes code text)
  pub refusal : 1 < code → IsRefusal code text
  pub in_turn : (refused : 1 < code) → IsInTurn market reads (refusal refused).file
  pub answer : code ≢ OUT_OF_MEMORY → code ≢ READ_FAULT → OfBoth market matched (λ market_bytes match_bytes. IsAnswer market_bytes match_bytes code text)

-- What a check did. It wrote the first bytes of a line, and all of it if the writer didn't fail.
pub record Answers (market matched : Option (List ℕ)) (reads : ℕ) (old new : Option (List ℕ)) (code written : ℕ) (whole : Bool) : Type 0 where
  pub text : List ℕ
  pub is_written : IsWritten text old new written whole
  pub says : Says market matched reads code text
