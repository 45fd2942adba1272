-- A command line of a program over files: its words, its arguments, and the files that they name. `matches_of` and
-- `fault_of` are `clap`'s own definition of a simple command. The arguments are this project's own.
use Rattle.std.specs.Prelude.{◌≡◌, ◌≢◌, ◌⊎◌, Bool, true, false, ◌&&◌, List, [], Option, Some, None, bytes_eq, codes}
use Rattle.clap.specs.Kinds.{IsAmong}
use Rattle.clap.specs.Words.{App, Row, Rule, Text, fault_of, first_of, matches_of, new_rule, with_rule}
use Rattle.clap.specs.declared.builder.action.ArgAction.TheVariants.{SetTrue}
use Rattle.clap.specs.declared.error.kind.ErrorKind.{ErrorKind}
use Rattle.clap.specs.declared.error.kind.ErrorKind.TheVariants.{DisplayHelp, DisplayVersion}
use Rattle.mt_program.specs.CommandLine.{is_standard, plain_app}

-- ---- arguments

-- an argument that names a file, which may be left out if it isn't required
abbrev pub file_rule : Text → Bool → Rule
file_rule name required = record (new_rule name) { required = required }

-- a command with MARKET and MATCH, both of which are required
abbrev pub two_files_app : Text → App
two_files_app name = with_rule (with_rule (plain_app name) (file_rule (codes "MARKET") true)) (file_rule (codes "MATCH") true)

-- an option `--NAME` without a value
abbrev pub flag_rule : Text → Rule
flag_rule name = record (new_rule name) { long = Some name; action = Some SetTrue }

-- whether the text of such an option says that it was given
abbrev pub says_true : Option Text → Bool
says_true None = false
says_true (Some text) = bytes_eq text (codes "true")

-- whether the matches have such an option
abbrev pub is_given_in : Text → List Row → Bool
is_given_in name rows = says_true (first_of name rows)

-- ---- files

-- the file that the words of a command name by an argument, if any
abbrev pub file_of : App → Text → List Text → Option Text
file_of app name words = first_of name (matches_of app words)

-- the matches name these two files, which aren't both standard input
pub record NameFilesIn (rows : List Row) (market matched : Text) : Type 0 where
  pub names_market : first_of (codes "MARKET") rows ≡ Some market
  pub names_match : first_of (codes "MATCH") rows ≡ Some matched
  pub differ : (is_standard market && is_standard matched) ≡ false

-- the matches don't name two files, or name standard input twice
abbrev pub NameNoFilesIn : List Row → Type 0
NameNoFilesIn rows =
    (first_of (codes "MARKET") rows ≡ None) ⊎ (first_of (codes "MATCH") rows ≡ None)
    ⊎ ((first_of (codes "MARKET") rows ≡ Some (codes "-")) × (first_of (codes "MATCH") rows ≡ Some (codes "-")))

-- ---- what words ask for

-- the words of a command ask for help, or for the version
abbrev pub AskToBeTold : App → List Text → Type 0
AskToBeTold app words = IsAmong DisplayHelp (fault_of app words) ⊎ IsAmong DisplayVersion (fault_of app words)

-- the command refuses the words for another reason
abbrev pub AreRefused : App → List Text → Type 0
AreRefused app words = (kind : ErrorKind) × (kind ≢ DisplayHelp) × (kind ≢ DisplayVersion) × IsAmong kind (fault_of app words)

-- the command refuses the words for another reason, or they don't name two files
abbrev pub AreMisuse : App → List Text → Type 0
AreMisuse app words = AreRefused app words ⊎ NameNoFilesIn (matches_of app words)

-- the command takes the words, and they name these two files
pub record NameFiles (app : App) (words : List Text) (market matched : Text) : Type 0 where
  pub taken : fault_of app words ≡ []
  pub files : NameFilesIn (matches_of app words) market matched
