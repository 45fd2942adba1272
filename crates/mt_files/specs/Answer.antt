-- The answer of a program to the bytes of a market and of a match: a code and a text. A fault of a file is answered by
-- its refusal line.
use Rattle.std.specs.Prelude.{◌≡◌, ℕ, Bool, List, Option, Result, Ok, Err}
use Rattle.mt_terms.specs.Market.{Registered}
use Rattle.mt_terms.specs.Registration.Faults.{Fault}
use Rattle.mt_terms.specs.Registration.Ids.{Bytes}
use Rattle.mt_report.specs.Drains.{IsWritten}
use Rattle.mt_match_file.specs.Submitted.{Submitted}
use Rattle.mt_files.specs.Files.{files_in}
use Rattle.mt_files.specs.Text.{refused_line}
use Rattle.mt_files.specs.declared.source.Source.{Source}

-- a code and a text
pub record Answer : Type 0 where
  pub code : ℕ
  pub text : List ℕ

-- an answer was written, or its first bytes
pub record IsGiven (answer : Answer) (old new : Option (List ℕ)) (code : ℕ) (whole : Bool) : Type 0 where
  pub is_code : code ≡ answer.code
  pub written : ℕ
  pub is_written : IsWritten answer.text old new written whole

-- the answer to the fault of a file, by a line that begins with this word
abbrev pub fault_answer : Bytes → Source → Fault → Answer
fault_answer word file f = record { code = f.code; text = refused_line word file f.code f.row f.id }

-- the answer to a market and a match, by a rule for both, or to the fault of a file
abbrev pub answer_of : Bytes → (Registered → Submitted → Answer) → Result (Registered × Submitted) (Source × Fault) → Answer
answer_of word rule (Ok files) = rule files.0 files.1
answer_of word rule (Err fault) = fault_answer word fault.0 fault.1

-- The answer to the bytes of a market and of a match, by such a rule. It is that to the first fault of the market, or
-- else of the match, if there is one.
abbrev pub answer_to : Bytes → (Registered → Submitted → Answer) → List ℕ → List ℕ → Answer
answer_to word rule market_bytes match_bytes = answer_of word rule (files_in market_bytes match_bytes)

-- a code and a text are the answer to the bytes of two files
abbrev pub IsAnswerBy : (List ℕ → List ℕ → Answer) → List ℕ → List ℕ → ℕ → List ℕ → Type 0
IsAnswerBy answer market_bytes match_bytes code text = answer market_bytes match_bytes ≡ record { code = code; text = text }

-- the bytes of two files have one answer
abbrev pub OneAnswerBy : (List ℕ → List ℕ → Answer) → Type 0
OneAnswerBy answer = (market_bytes match_bytes : List ℕ) (c d : ℕ) (text other : List ℕ)
    → IsAnswerBy answer market_bytes match_bytes c text → IsAnswerBy answer market_bytes match_bytes d other → (c ≡ d) × (text ≡ other)
