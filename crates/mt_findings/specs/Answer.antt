-- The answer to the bytes of a market and of a match, and what a check for all findings did.
use Rattle.std.specs.Prelude.{◌≢◌, ◌≤◌, ◌<◌, ℕ, zero, suc, Bool, List, length, Option, codes}
use Rattle.mt_terms.specs.Market.{Registered}
use Rattle.mt_terms.specs.declared.codes.TheConstants.{OUT_OF_MEMORY, READ_FAULT}
use Rattle.mt_report.specs.Drains.{IsWritten}
use Rattle.mt_match_file.specs.Submitted.{Submitted}
use Rattle.mt_files.specs.Answer as files
use Rattle.mt_files.specs.Answer.{Answer, IsAnswerBy}
use Rattle.mt_files.specs.Refusals.{IsInTurn, OfBoth}
use Rattle.mt_first_finding.specs.Findings.{judged}
use Rattle.mt_judged.specs.Refusals.{IsRefusal}
use Rattle.mt_first_finding.specs.declared.finding.Finding.{Finding}
use Rattle.mt_findings.specs.Findings.{findings}
use Rattle.mt_findings.specs.Headline.{AreFound}
use Rattle.mt_findings.specs.Text.{findings_text}

-- the code of this number of findings: 0 if there is none, and else 1
abbrev pub number_code : ℕ → ℕ
number_code zero = 0
number_code (suc n) = 1

-- the answer that is some findings on a match which sets this number of couples aside
abbrev pub found_answer : Registered → ℕ → List Finding → Answer
found_answer r aside found = record { code = number_code (length found); text = findings_text r aside found }

-- The answer to a market and a match: every finding in the market in which the couples that the match sets aside want
-- nothing.
abbrev pub findings_answer : Registered → Submitted → Answer
findings_answer r submitted = found_answer (judged r submitted) (length submitted.aside) (findings (judged r submitted).market submitted)

-- The answer to the bytes of a market and of a match: every finding, or the first fault of the market, or else of the
-- match.
abbrev pub answer_to : List ℕ → List ℕ → Answer
answer_to = files.answer_to (codes "check") findings_answer

abbrev pub IsAnswer : List ℕ → List ℕ → ℕ → List ℕ → Type 0
IsAnswer = IsAnswerBy answer_to

-- What a text says that was written after this number of reads of the match. With code 0 or 1 it has every finding
-- against the match that was read. Any other code has one named refusal line, of the file whose turn it is. But for want
-- of memory and a read that failed, it is the answer to the bytes that were there to read.
pub record Says (market matched : Option (List ℕ)) (reads code : ℕ) (text : List ℕ) : Type 0 where
  pub found : code ≤ 1 → OfBoth market matched (λ market_bytes match_bytes. AreFound market_bytes match_bytes code text)
  pub refusal : 1 < code → IsRefusal code text
  pub in_turn : (refused : 1 < code) → IsInTurn market reads (refusal refused).file
  pub answer : code ≢ OUT_OF_MEMORY → code ≢ READ_FAULT → OfBoth market matched (λ market_bytes match_bytes. IsAnswer market_bytes match_bytes code text)

-- What a check for all findings did. It wrote the first bytes of a text, and all of it if the writer didn't fail.
pub record Answers (market matched : Option (List ℕ)) (reads : ℕ) (old new : Option (List ℕ)) (code : ℕ) (whole : Bool) : Type 0 where
  pub text : List ℕ
  pub written : ℕ
  pub is_written : IsWritten text old new written whole
  pub says : Says market matched reads code text
