-- The command line `nrmatch [FILE] [--workers N] [--budget N] [--orders N] [--set-aside]`: a simple command in the terms
-- of the crate `clap`, and what its words ask for. Three things are `clap`'s own definition of a simple command. `takes` is which words
-- the command takes. `matches_of` is what it reads of them, defaults included. `fault_of` is how it refuses others.
-- The command, its limits and its defaults are this project's own.
use Rattle.std.specs.Prelude.{◌≡◌, ◌≢◌, ◌≤◌, ℕ, ◌⊎◌, Bool, List, [], ◌∷◌, Option, None, Some, ⊤}
use Rattle.std.specs.Prelude.{false, option_map, codes, pos, string_bytes}
use Rattle.std.specs.Option.{option_map_or}
use Rattle.std.specs.Str.{bytes_eq}
use Rattle.std.specs.Str.Parse.{IsNumeral, digits_value, without_leading_plus}
use Rattle.clap.specs.Words.{App, Row, Rule, Text, fault_of, first_of, matches_of}
use Rattle.clap.specs.Words.{new_rule, one_of, takes, with_rule}
use Rattle.mt_program.specs.CommandLine.{path_by, plain_app}
use Rattle.clap.specs.declared.builder.action.ArgAction.TheVariants.{Set, SetTrue}
use Rattle.clap.specs.declared.builder.value_parser.ValueParser.{ValueParser}
use Rattle.clap.specs.declared.builder.value_parser.ValueParser.TheVariants.{Bool as AsBool, Signed}
use Rattle.clap.specs.declared.error.kind.ErrorKind.{ErrorKind}
use Rattle.clap.specs.declared.error.kind.ErrorKind.TheVariants.{DisplayHelp, DisplayVersion}
use Rattle.mt_args.specs.declared.answer.Asked.{Asked}
use Rattle.mt_args.specs.declared.answer.Asked.TheVariants.{Run, Help, Version}
use Rattle.mt_args.specs.declared.answer.AskEnd.{AskEnd}
use Rattle.mt_args.specs.declared.answer.AskEnd.TheVariants.{Usage, Memory}
use Rattle.mt_terms.specs.declared.options.Options.{Options}

-- ---- the command

-- `[FILE]`
abbrev pub file_rule : Rule
file_rule = new_rule (codes "FILE")

-- an option with one value, whose name, range and default are given
abbrev pub option_rule : Text → ValueParser → Text → Rule
option_rule name range default = record (new_rule name) {
  long = Some name;
  action = Some Set;
  value_names = 1;
  parser = Some range;
  defaults = default ∷ [];
}

-- `[--workers N]`, 1 to 64, without which it is 4
abbrev pub workers_rule : Rule
workers_rule = option_rule (codes "workers") (Signed (pos 1) (pos 64)) (codes "4")

-- `[--budget N]`, 1 to 4,294,967,295, without which it is 1,000,000
abbrev pub budget_rule : Rule
budget_rule = option_rule (codes "budget") (Signed (pos 1) (pos 4294967295)) (codes "1000000")

-- `[--orders N]`, 1 to 1,000, without which it is 1
abbrev pub orders_rule : Rule
orders_rule = option_rule (codes "orders") (Signed (pos 1) (pos 1000)) (codes "1")

-- `[--set-aside]`, without a value
abbrev pub set_aside_rule : Rule
set_aside_rule = record (new_rule (codes "set-aside")) {
  long = Some (codes "set-aside");
  action = Some SetTrue;
  parser = Some AsBool;
}

-- the command: FILE, then the options
abbrev pub nrmatch : App
nrmatch =
    let of_file : App = with_rule (plain_app (codes "nrmatch")) file_rule in
    with_rule (with_rule (with_rule (with_rule of_file workers_rule) budget_rule) orders_rule) set_aside_rule

-- ---- what the words ask for

-- the path of the file among the matches, or none for standard input, which is left out or `-`
abbrev pub file_in : List Row → Option Text
file_in rows = path_by (first_of (codes "FILE") rows)

-- the number that a text of decimal digits writes, with or without a `+` before them
abbrev pub number_at : Text → ℕ
number_at digits = digits_value 10 (without_leading_plus digits)

-- the number of an option among the matches, given or by default
abbrev pub number_in : Text → List Row → Option ℕ
number_in name rows = option_map number_at (one_of name rows)

-- whether an option without a value is among the matches
abbrev pub is_set_in : Text → List Row → Bool
is_set_in name rows = option_map_or (bytes_eq (codes "true")) (one_of name rows) false

-- the path of the file that the words name, or none for standard input
abbrev pub file_of : List Text → Option Text
file_of words = file_in (matches_of nrmatch words)

-- the number that the words, or the default, give an option
abbrev pub number_of : Text → List Text → Option ℕ
number_of name words = number_in name (matches_of nrmatch words)

-- whether the words have an option without a value
abbrev pub is_set : Text → List Text → Bool
is_set name words = is_set_in name (matches_of nrmatch words)

-- the command takes the words
abbrev pub is_taken : List Text → Bool
is_taken words = takes nrmatch words

-- the words are refused because they ask for help
abbrev pub AsksForHelp : List Text → Type 0
AsksForHelp words = fault_of nrmatch words ≡ DisplayHelp ∷ []

-- the words are refused because they ask for the version
abbrev pub AsksForVersion : List Text → Type 0
AsksForVersion words = fault_of nrmatch words ≡ DisplayVersion ∷ []

-- the words are refused for any other reason
abbrev pub IsMisuse : List Text → Type 0
IsMisuse words = (kind : ErrorKind) × (kind ≢ DisplayHelp) × (kind ≢ DisplayVersion) × (fault_of nrmatch words ≡ kind ∷ [])

-- ---- answers

-- If the answer is a run, P holds of its file and its options. Any other answer meets this.
abbrev pub IfRun : Asked → (Option Text → Options → Type 0) → Type 0
IfRun (Run file options orders set_aside) P = P (option_map string_bytes file) options
IfRun (Help text) P = ⊤
IfRun (Version text) P = ⊤

-- If the answer is a run, P holds of how many orders of couples it may try, and of whether it may set couples aside.
-- Any other answer meets this.
abbrev pub IfRunInWays : Asked → (ℕ → Bool → Type 0) → Type 0
IfRunInWays (Run file options orders set_aside) P = P orders set_aside
IfRunInWays (Help text) P = ⊤
IfRunInWays (Version text) P = ⊤

-- If the answer is the text of help, P holds. Any other answer meets this.
abbrev pub OnHelp : Asked → Type 0 → Type 0
OnHelp (Help text) P = P
OnHelp (Version text) P = ⊤
OnHelp (Run file options orders set_aside) P = ⊤

-- If the answer is the text of the version, P holds. Any other answer meets this.
abbrev pub OnVersion : Asked → Type 0 → Type 0
OnVersion (Version text) P = P
OnVersion (Help text) P = ⊤
OnVersion (Run file options orders set_aside) P = ⊤

-- If the words are refused with a text of usage, P holds. Want of memory meets this.
abbrev pub OnUsage : AskEnd → Type 0 → Type 0
OnUsage (Usage text) P = P
OnUsage Memory P = ⊤

-- the options of a run are within the command's limits: 1 to 64 workers, and a budget of one round or more
abbrev pub IsWithinLimits : Options → Type 0
IsWithinLimits o = (1 ≤ o.workers) × (o.workers ≤ 64) × (1 ≤ o.budget)

-- as many orders as the command allows: 1 to 1,000
abbrev pub AreOrders : ℕ → Type 0
AreOrders orders = (1 ≤ orders) × (orders ≤ 1000)

-- ---- inside the crate

-- the text of an option among the matches is a number within its limits
abbrev pub HasNumber : ℕ → ℕ → Text → List Row → Type 0
HasNumber low high name rows = (digits : Text) × (one_of name rows ≡ Some digits)
    × IsNumeral 10 (without_leading_plus digits) × (low ≤ number_at digits) × (number_at digits ≤ high)

-- an option without a value is among the matches as `true` or `false`, or it isn't there
abbrev pub IsFlag : Option Text → Type 0
IsFlag None = ⊤
IsFlag (Some text) = (text ≡ codes "true") ⊎ (text ≡ codes "false")

-- all options are there
abbrev pub HasOptions : List Row → Type 0
HasOptions rows = HasNumber 1 64 (codes "workers") rows × HasNumber 1 4294967295 (codes "budget") rows
    × HasNumber 1 1000 (codes "orders") rows × IsFlag (one_of (codes "set-aside") rows)
