-- What is said of a file that couldn't be opened. This project's own rule.
use Rattle.std.specs.Prelude.{◌≡◌, ◌⊎◌, ◌++◌, ℕ, Bool, List, Option, None, Some, codes}
use Rattle.clap.specs.Words.{Text}
use Rattle.mt_report.specs.Drains.{IsWritten}

-- The line has the program's name, the file's path and some words.
abbrev pub IsReason : (program path line : Text) → Type 0
IsReason program path line = (words : Text) × (line ≡ program ++ codes ": " ++ path ++ codes ": " ++ words ++ codes "\n")

-- A writer took nothing, or such a line, or its first bytes.
abbrev pub SaysReason : (program path : Text) (old new : Option (List ℕ)) → Type 0
SaysReason program path old new =
    (new ≡ old) ⊎ ((line : Text) × IsReason program path line × (written : ℕ) × (whole : Bool) × IsWritten line old new written whole)

-- A writer took nothing if there was no error. Otherwise it took such a line at most.
abbrev pub SaysReasonFor : {E : Type 0} (error : Option E) (program path : Text) (old new : Option (List ℕ)) → Type 0
SaysReasonFor None program path old new = new ≡ old
SaysReasonFor (Some error) program path old new = SaysReason program path old new
