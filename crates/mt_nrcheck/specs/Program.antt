-- What the program does with two readers and a writer, and how it ends.
use Rattle.std.specs.Prelude.{◌≡◌, ℕ, Bool, true, false, List, [], ◌∷◌, Option}
use Rattle.clap.specs.Words.{Text, fault_of}
use Rattle.mt_check.specs.Answer.{Answers}
use Rattle.mt_fault_text.specs.Answer as faults
use Rattle.mt_findings.specs.Answer as full
use Rattle.mt_report.specs.Status.{status_of}
use Rattle.mt_file_programs.specs.Exit.{IsExitOf}
use Rattle.mt_nrcheck.specs.CommandLine.{AreMisuse, nrcheck}

-- The program checked a match: what it did to its writer answers what its readers had left, and it ends with the status
-- of that.
pub record IsCheck (market matched old new : Option (List ℕ)) (status : ℕ) : Type 0 where
  pub reads : ℕ
  pub code : ℕ
  pub written : ℕ
  pub whole : Bool
  pub answers : Answers market matched reads old new code written whole
  pub is_status : status ≡ status_of code whole

-- the same of a check for every finding
pub record IsFullCheck (market matched old new : Option (List ℕ)) (status : ℕ) : Type 0 where
  pub reads : ℕ
  pub code : ℕ
  pub whole : Bool
  pub answers : full.Answers market matched reads old new code whole
  pub is_status : status ≡ status_of code whole

-- the program checked a match with every finding, or with the first one
abbrev pub IsCheckBy : Bool → Option (List ℕ) → Option (List ℕ) → Option (List ℕ) → Option (List ℕ) → ℕ → Type 0
IsCheckBy true = IsFullCheck
IsCheckBy false = IsCheck

-- The program listed all faults of a market: what it did to its writer answers what its reader had left, and it ends with the
-- status of that.
pub record IsFaultList (market old new : Option (List ℕ)) (status : ℕ) : Type 0 where
  pub code : ℕ
  pub whole : Bool
  pub answers : faults.Answers market old new code whole
  pub is_status : status ≡ status_of code whole

-- What an exit status says of the words of the command line. Status 64 says that they are misuse. Statuses 1 and 2
-- say that the command takes them. Status 0 says that it takes them, or that they ask for help or the version.
-- Statuses 4 and 5 say nothing of them.
abbrev pub IsExitFor : List Text → ℕ → Type 0
IsExitFor words status = IsExitOf nrcheck (1 ∷ 2 ∷ []) (AreMisuse words) words status

-- an exit status that says so of all words that the command takes
abbrev pub IsExitForTaken : ℕ → Type 0
IsExitForTaken status = (words : List Text) → fault_of nrcheck words ≡ [] → IsExitFor words status
