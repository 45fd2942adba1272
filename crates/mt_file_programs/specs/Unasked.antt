-- What words that ask for no run of a program over files ask for.
use Rattle.std.specs.Prelude.{◌≡◌, ◌≢◌, ◌⊎◌, ⊤, List}
use Rattle.clap.specs.Words.{App, Text}
use Rattle.clap.specs.declared.error.kind.ErrorKind.{ErrorKind}
use Rattle.clap.specs.declared.error.kind.ErrorKind.TheVariants.{DisplayHelp, DisplayVersion, OutOfMemory}
use Rattle.mt_file_programs.specs.CommandLine.{AskToBeTold}
use Rattle.mt_program.specs.declared.unasked.Unasked.{Unasked}
use Rattle.mt_program.specs.declared.unasked.Unasked.TheVariants.{Told, Misuse, Memory}

-- What the words of a command ask for in place of a run: help, the version, or nothing if they are misuse. Want of
-- memory says nothing of them.
abbrev pub IsUnaskedBy : App → (misuse : Type 0) → List Text → Unasked → Type 0
IsUnaskedBy app misuse words (Told text) = AskToBeTold app words
IsUnaskedBy app misuse words (Misuse text) = misuse
IsUnaskedBy app misuse words Memory = ⊤

-- It is no such text. If it is misuse, this holds.
abbrev pub IsMisuseBy : (misuse : Type 0) → Unasked → Type 0
IsMisuseBy misuse (Told text) = ⊥
IsMisuseBy misuse (Misuse text) = misuse
IsMisuseBy misuse Memory = ⊤

-- ---- inside the crate

-- what is answered to an error of this kind
abbrev pub IsEndOf : ErrorKind → Unasked → Type 0
IsEndOf kind (Told text) = (kind ≢ OutOfMemory) × ((kind ≡ DisplayHelp) ⊎ (kind ≡ DisplayVersion))
IsEndOf kind (Misuse text) = (kind ≢ OutOfMemory) × (kind ≢ DisplayHelp) × (kind ≢ DisplayVersion)
IsEndOf kind Memory = ⊤
