-- What the program does with two readers and a writer, and how it ends.
use Rattle.std.specs.Prelude.{◌≡◌, ℕ, Bool, List, [], ◌∷◌, Option}
use Rattle.clap.specs.Words.{Text}
use Rattle.mt_explained.specs.Answer.{Answers}
use Rattle.mt_report.specs.Status.{status_of}
use Rattle.mt_file_programs.specs.CommandLine.{AreMisuse}
use Rattle.mt_file_programs.specs.Exit.{IsExitOf}
use Rattle.mt_nrexplain.specs.CommandLine.{nrexplain}

-- The program explained a match: what it did to its writer answers what its readers had left, and it ends with the status
-- of that.
pub record IsExplanation (ids : List Text) (is_public : Bool) (market matched old new : Option (List ℕ)) (status : ℕ) : Type 0 where
  pub reads : ℕ
  pub code : ℕ
  pub whole : Bool
  pub answers : Answers ids is_public market matched reads old new code whole
  pub is_status : status ≡ status_of code whole

-- What an exit status says of the words of the command line. Status 64 says that they are misuse. Status 2 says that the
-- command takes them. Status 0 says that it takes them, or that they ask for help or the version. Statuses 4 and 5 say
-- nothing of them.
abbrev pub IsExitFor : List Text → ℕ → Type 0
IsExitFor words status = IsExitOf nrexplain (2 ∷ []) (AreMisuse nrexplain words) words status
