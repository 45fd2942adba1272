-- The answer to the bytes of one file, and what a check of it did. Its code is 0 for an accepted market, and otherwise the
-- code with which nrmatch refuses the file.
use Rattle.std.specs.Prelude.{◌≡◌, ◌≢◌, ◌⊎◌, ℕ, Bool, List, [], ◌∷◌, ◌++◌, Option, Some, None, Result, Ok, Err, codes, IsTrue}
use Rattle.mt_lists.specs.Records.{without_mark}
use Rattle.mt_terms.specs.Market.{Registered}
use Rattle.mt_terms.specs.Registration.{market_of}
use Rattle.mt_terms.specs.Registration.Faults.{Fault}
use Rattle.mt_terms.specs.Registration.Ids.{Bytes}
use Rattle.mt_terms.specs.declared.codes.TheConstants.{OUT_OF_MEMORY, READ_FAULT}
use Rattle.mt_report.specs.Drains.{IsWritten}
use Rattle.mt_input.specs.Files.{market_in, of_bytes}
use Rattle.mt_input.specs.Left.{OfLeft}
use Rattle.mt_files.specs.Answer.{Answer, IsGiven}
use Rattle.mt_files.specs.Text.{is_code_of, refused_line}
use Rattle.mt_files.specs.declared.source.Source.TheVariants.{Market}
use Rattle.mt_fault_terms.specs.Faults.{FileFault, fault_alone}
use Rattle.mt_fault_terms.specs.OfFile.{faults_of}
use Rattle.mt_fault_text.specs.Text.{accepted_line, all_lines, count_line, fault_line_at, fault_lines}

-- the faults that were found, or the one that leaves a file without records
abbrev pub faults_by : Result (List FileFault) Fault → List FileFault
faults_by (Ok faults) = faults
faults_by (Err f) = (0, fault_alone f.code 0) ∷ []

-- all faults of the bytes of a file
abbrev pub faults_in : List ℕ → List FileFault
faults_in bytes = faults_by (of_bytes (λ rows. Ok (faults_of rows)) bytes)

-- the answer to the faults of a text, with this code
abbrev pub faults_answer : ℕ → Bytes → List FileFault → Answer
faults_answer code text faults = record { code = code; text = all_lines text faults }

-- the answer to a text that is a market, or has a first fault and these faults
abbrev pub answer_of : Bytes → Result Registered Fault → List FileFault → Answer
answer_of text (Ok r) faults = record { code = 0; text = accepted_line r }
answer_of text (Err f) faults = faults_answer f.code text faults

-- The answer to the bytes of a file: the numbers of its market if it is accepted, and otherwise all of its faults.
abbrev pub answer_to : List ℕ → Answer
answer_to bytes = answer_of (without_mark bytes) (market_in bytes) (faults_in bytes)

abbrev pub IsAnswer : List ℕ → ℕ → List ℕ → Type 0
IsAnswer bytes code text = answer_to bytes ≡ record { code = code; text = text }

-- the refusal line for want of memory, or for a failed read
abbrev pub refusal : ℕ → Bytes
refusal code = refused_line (codes "check") Market code 0 []

-- the code of the first fault, if there is one
abbrev pub code_in : Result Registered Fault → Option ℕ
code_in (Ok r) = None
code_in (Err f) = Some f.code

-- the answer in want of memory
abbrev pub no_memory : Answer
no_memory = record { code = OUT_OF_MEMORY; text = refusal OUT_OF_MEMORY }

-- the answer in want of memory, after the lines of the first faults in a text
abbrev pub cut_answer : Bytes → List FileFault → Answer
cut_answer text front = record { code = OUT_OF_MEMORY; text = fault_lines text front ++ refusal OUT_OF_MEMORY }

-- Memory ran out after the first of the faults of these bytes, or before them.
pub record IsCutShort (bytes : List ℕ) (code : ℕ) (text : List ℕ) : Type 0 where
  pub front : List FileFault
  pub others : List FileFault
  pub all : front ++ others ≡ faults_in bytes
  pub is_answer : cut_answer (without_mark bytes) front ≡ record { code = code; text = text }

-- What a text says with this code of the bytes that a reader had left. But for want of memory and a failed read, it is the answer
-- to those bytes. Want of memory may cut the lines of faults short.
pub record Says (left : Option (List ℕ)) (code : ℕ) (text : List ℕ) : Type 0 where
  pub known : code ≢ 0 → IsTrue (is_code_of Market code)
  pub answer : code ≢ OUT_OF_MEMORY → code ≢ READ_FAULT → OfLeft left (λ bytes. IsAnswer bytes code text)
  pub memory : code ≡ OUT_OF_MEMORY → OfLeft left (λ bytes. IsCutShort bytes code text)
  pub read : code ≡ READ_FAULT → text ≡ refusal READ_FAULT

-- What a check of one file did. It wrote the first bytes of a text, and all of it if the writer didn't fail.
pub record Answers (left old new : Option (List ℕ)) (code : ℕ) (whole : Bool) : Type 0 where
  pub text : List ℕ
  pub written : ℕ
  pub is_written : IsWritten text old new written whole
  pub says : Says left code text

-- the lines of these faults in a text were written with this code, or those of the first ones and the refusal for want of memory
pub record IsCutGiven (text : Bytes) (faults : List FileFault) (old new : Option (List ℕ)) (code : ℕ) (whole : Bool) : Type 0 where
  pub front : List FileFault
  pub others : List FileFault
  pub all : front ++ others ≡ faults
  pub given : IsGiven (cut_answer text front) old new code whole

-- an answer was written, or the lines of the first faults and the refusal for want of memory
abbrev pub IsGivenOrCut : Answer → Bytes → List FileFault → Option (List ℕ) → Option (List ℕ) → ℕ → Bool → Type 0
IsGivenOrCut answer text faults old new code whole = IsGiven answer old new code whole ⊎ IsCutGiven text faults old new code whole

-- the answer to a text with these records was written, or the lines of its first faults
abbrev pub IsAnswerGiven : Bytes → List (List Bytes) → Option (List ℕ) → Option (List ℕ) → ℕ → Bool → Type 0
IsAnswerGiven text rows = IsGivenOrCut (answer_of text (market_of rows) (faults_of rows)) text (faults_of rows)

-- all faults of a text were listed with this code, or the first ones
abbrev pub AreListed : ℕ → Bytes → List FileFault → Option (List ℕ) → Option (List ℕ) → ℕ → Bool → Type 0
AreListed listed text faults = IsGivenOrCut (faults_answer listed text faults) text faults

-- this answer was written, or that in want of memory
abbrev pub IsGivenOrNoMemory : Answer → Option (List ℕ) → Option (List ℕ) → ℕ → Bool → Type 0
IsGivenOrNoMemory answer old new code whole = IsGiven answer old new code whole ⊎ IsGiven no_memory old new code whole

-- the lines of the one fault that leaves a file without records
abbrev pub lines_alone : ℕ → Bytes
lines_alone code = fault_line_at 0 (0, fault_alone code 0) ++ count_line 1
