-- Laws of the command line, as statements. Each is the contract of a function of the module `laws`.
use Rattle.std.specs.Prelude.{◌≡◌, true, false, List, [], ◌∷◌}
use Rattle.clap.specs.Words.{Text, fault_of}
use Rattle.clap.specs.declared.error.kind.ErrorKind.{ErrorKind}
use Rattle.mt_args.specs.CommandLine.{AsksForHelp, is_taken, nrmatch}

-- words that the command takes have no kind of error, and all others have exactly one
abbrev pub RefusalIsExact : Type 0
RefusalIsExact = (words : List Text) → (is_taken words ≡ true → fault_of nrmatch words ≡ [])
    × (is_taken words ≡ false → (kind : ErrorKind) × (fault_of nrmatch words ≡ kind ∷ []))

-- words that ask for help aren't taken
abbrev pub HelpIsNotTaken : Type 0
HelpIsNotTaken = (words : List Text) → AsksForHelp words → is_taken words ≡ false
