-- The answer to the bytes of a market and of a match, and what a report did.
use Rattle.std.specs.Prelude.{◌≡◌, ◌≢◌, ℕ, Bool, List, Option, codes}
use Rattle.mt_terms.specs.Market.{Registered}
use Rattle.mt_terms.specs.Registration.Faults.{Fault}
use Rattle.mt_terms.specs.declared.codes.TheConstants.{OUT_OF_MEMORY, READ_FAULT}
use Rattle.mt_report.specs.Drains.{IsWritten}
use Rattle.mt_match_file.specs.Submitted.{Submitted}
use Rattle.mt_files.specs.Answer as files
use Rattle.mt_files.specs.Answer.{IsAnswerBy}
pub use Rattle.mt_files.specs.Answer.{Answer}
use Rattle.mt_files.specs.Refusals.{IsInTurn, OfBoth}
use Rattle.mt_files.specs.declared.source.Source.{Source}
use Rattle.mt_reported.specs.Headline.{IsRefusal, IsReported, text_in}
use Rattle.mt_reported.specs.declared.form.Form.{Form}

-- the answer that is a fault of a file
abbrev pub fault_answer : Source → Fault → Answer
fault_answer = files.fault_answer (codes "report")

-- the answer to a market and a match: code 0 and the numbers of the match in this form
abbrev pub report_answer : Form → Registered → Submitted → Answer
report_answer form r submitted = record { code = 0; text = text_in form r submitted.places }

-- The answer to the bytes of a market and of a match: the numbers of the match in this form, or the first fault of the market, or
-- else of the match.
abbrev pub answer_to : Form → List ℕ → List ℕ → Answer
answer_to form = files.answer_to (codes "report") (report_answer form)

abbrev pub IsAnswer : Form → List ℕ → List ℕ → ℕ → List ℕ → Type 0
IsAnswer form = IsAnswerBy (answer_to form)

-- What the text of a report says that made this number of reads of the match. If the code is 0, it has the numbers of
-- the match that was read. Any other code has one named refusal line, of the file whose turn it is. But for want of
-- memory and a read that failed, it is the answer to the bytes that were there to read.
pub record Says (form : Form) (market matched : Option (List ℕ)) (reads code : ℕ) (text : List ℕ) : Type 0 where
  pub reported : code ≡ 0 → OfBoth market matched (λ market_bytes match_bytes. IsReported form market_bytes match_bytes text)
  pub refusal : code ≢ 0 → IsRefusal code text
  pub in_turn : (refused : code ≢ 0) → IsInTurn market reads (refusal refused).file
  pub answer : code ≢ OUT_OF_MEMORY → code ≢ READ_FAULT → OfBoth market matched (λ market_bytes match_bytes. IsAnswer form market_bytes match_bytes code text)

-- What a report did. It wrote the first bytes of a text, and all of it if the writer didn't fail.
pub record Answers (form : Form) (market matched : Option (List ℕ)) (reads : ℕ) (old new : Option (List ℕ)) (code written : ℕ) (whole : Bool) : Type 0 where
  pub text : List ℕ
  pub is_written : IsWritten text old new written whole
  pub says : Says form market matched reads code text
