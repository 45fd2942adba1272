-- Worked words of the command line, and what they ask for.
use Rattle.std.specs.Prelude.{◌≡◌, ℕ, Bool, true, false, List, [], ◌∷◌, Option, Some, None, codes}
use Rattle.clap.specs.Words.{Text, fault_of}
use Rattle.clap.specs.declared.error.kind.ErrorKind.{ErrorKind}
use Rattle.clap.specs.declared.error.kind.ErrorKind.TheVariants.{ArgumentConflict, DisplayHelp, DisplayVersion, InvalidValue}
use Rattle.clap.specs.declared.error.kind.ErrorKind.TheVariants.{TooManyValues, UnknownArgument, ValueValidation}
use Rattle.mt_args.specs.CommandLine.{file_of, is_set, is_taken, nrmatch, number_of}

-- the words are taken, and give this file, these workers and this budget
abbrev pub Gives : List Text → Option Text → ℕ → ℕ → Type 0
Gives words file workers budget = (is_taken words ≡ true) × (file_of words ≡ file)
    × (number_of (codes "workers") words ≡ Some workers) × (number_of (codes "budget") words ≡ Some budget)

-- the words are taken, and give this number of orders, and whether couples may be set aside
abbrev pub GivesWays : List Text → ℕ → Bool → Type 0
GivesWays words orders set_aside = (is_taken words ≡ true) × (number_of (codes "orders") words ≡ Some orders) × (is_set (codes "set-aside") words ≡ set_aside)

-- the words are refused by this kind of error
abbrev pub IsRefusedBy : ErrorKind → List Text → Type 0
IsRefusedBy kind words = (is_taken words ≡ false) × (fault_of nrmatch words ≡ kind ∷ [])

abbrev pub DefaultsStand : Type 0
DefaultsStand = Gives [] None 4 1000000

abbrev pub MostIsTaken : Type 0
MostIsTaken = Gives
    (codes "--workers" ∷ codes "64" ∷ codes "--budget" ∷ codes "4294967295" ∷ codes "f" ∷ [])
    (Some (codes "f")) 64 4294967295

-- by default there is one order, and no couple is set aside
abbrev pub OneWayByDefault : Type 0
OneWayByDefault = GivesWays [] 1 false

abbrev pub ManyWaysAreTaken : Type 0
ManyWaysAreTaken = GivesWays (codes "--orders" ∷ codes "1000" ∷ codes "--set-aside" ∷ codes "f" ∷ []) 1000 true

abbrev pub AreWrongWays : Type 0
AreWrongWays = IsRefusedBy ValueValidation (codes "--orders" ∷ codes "0" ∷ [])
    × IsRefusedBy ValueValidation (codes "--orders" ∷ codes "1001" ∷ [])
    × IsRefusedBy ValueValidation (codes "--orders" ∷ codes "x" ∷ [])
    × IsRefusedBy InvalidValue (codes "--orders" ∷ [])
    × IsRefusedBy ArgumentConflict (codes "--set-aside" ∷ codes "--set-aside" ∷ [])
    × IsRefusedBy TooManyValues (codes "--set-aside=true" ∷ [])

abbrev pub AfterHyphensIsFile : Type 0
AfterHyphensIsFile = Gives (codes "--" ∷ codes "--help" ∷ []) (Some (codes "--help")) 4 1000000

-- `-` is standard input, also after `--`, and `./-` is a file
abbrev pub HyphenIsStandardInput : Type 0
HyphenIsStandardInput = Gives (codes "-" ∷ []) None 4 1000000
    × Gives (codes "--" ∷ codes "-" ∷ []) None 4 1000000
    × Gives (codes "./-" ∷ []) (Some (codes "./-")) 4 1000000

abbrev pub AreMisuse : Type 0
AreMisuse = IsRefusedBy ValueValidation (codes "--workers" ∷ codes "0" ∷ [])
    × IsRefusedBy ValueValidation (codes "--workers" ∷ codes "65" ∷ [])
    × IsRefusedBy ValueValidation (codes "--workers" ∷ codes "x" ∷ [])
    × IsRefusedBy ValueValidation (codes "--budget" ∷ codes "0" ∷ [])
    × IsRefusedBy ValueValidation (codes "--budget" ∷ codes "4294967296" ∷ [])
    × IsRefusedBy UnknownArgument (codes "f" ∷ codes "g" ∷ [])
    × IsRefusedBy UnknownArgument (codes "--none" ∷ [])
    × IsRefusedBy InvalidValue (codes "--workers" ∷ [])
    × IsRefusedBy ArgumentConflict
    (codes "--budget" ∷ codes "7" ∷ codes "--budget" ∷ codes "7" ∷ [])

abbrev pub AskForHelp : Type 0
AskForHelp = IsRefusedBy DisplayHelp (codes "--help" ∷ [])
    × IsRefusedBy DisplayHelp (codes "-h" ∷ [])
    × IsRefusedBy DisplayHelp (codes "f" ∷ codes "--help" ∷ codes "--none" ∷ [])
    × IsRefusedBy UnknownArgument (codes "--none" ∷ codes "--help" ∷ [])

abbrev pub AskForVersion : Type 0
AskForVersion = IsRefusedBy DisplayVersion (codes "--version" ∷ [])
    × IsRefusedBy DisplayVersion (codes "-V" ∷ [])
    × IsRefusedBy DisplayHelp (codes "--help" ∷ codes "--version" ∷ [])
    × IsRefusedBy UnknownArgument (codes "--none" ∷ codes "--version" ∷ [])
