-- The command line `nrcheck MARKET [MATCH] [--all] [--quiet]`, a simple command in the terms of the crate `clap`, and what its
-- words ask for.
use Rattle.std.specs.Prelude.{◌≡◌, ◌⊎◌, true, false, List, [], Some, None, codes, string_bytes}
use Rattle.clap.specs.Words.{App, Row, Text, fault_of, first_of, matches_of, with_rule}
use Rattle.mt_file_programs.specs.CommandLine.{AreRefused, NameFilesIn, file_rule, flag_rule, is_given_in}
use Rattle.mt_program.specs.CommandLine.{plain_app}
use Rattle.mt_nrcheck.specs.declared.command.Request.{Request}
use Rattle.mt_nrcheck.specs.declared.command.Request.TheVariants.{Check, Faults}

-- the files: MARKET, and a MATCH that may be left out
abbrev pub with_files : App
with_files = with_rule (with_rule (plain_app (codes "nrcheck")) (file_rule (codes "MARKET") true)) (file_rule (codes "MATCH") false)

-- the command: the files, `--all` and `--quiet`
abbrev pub nrcheck : App
nrcheck = with_rule (with_rule with_files (flag_rule (codes "all"))) (flag_rule (codes "quiet"))

-- the matches name this market and have no `--all`, and the request is for its faults, in words too unless `--quiet` is given
abbrev pub AskForFaults : List Row → Request → Type 0
AskForFaults rows (Faults market is_quiet) =
    (first_of (codes "MARKET") rows ≡ Some (string_bytes market)) × (is_given_in (codes "all") rows ≡ false)
    × (is_quiet ≡ is_given_in (codes "quiet") rows)
AskForFaults rows (Check files is_all) = ⊥

-- the matches name these two files, and the request is for a check of them, with every finding if `--all` is given
abbrev pub AskForCheck : List Row → Request → Type 0
AskForCheck rows (Faults market is_quiet) = ⊥
AskForCheck rows (Check files is_all) =
    NameFilesIn rows (string_bytes files.market) (string_bytes files.matched) × (is_all ≡ is_given_in (codes "all") rows)

-- what the matches ask for: the faults of a market exactly if they name no match
abbrev pub AskFor : List Row → Request → Type 0
AskFor rows request = ((first_of (codes "MATCH") rows ≡ None) × AskForFaults rows request) ⊎ AskForCheck rows request

-- the command takes the words, and they ask for this
pub record IsAskedBy (words : List Text) (request : Request) : Type 0 where
  pub taken : fault_of nrcheck words ≡ []
  pub asked : AskFor (matches_of nrcheck words) request

-- the matches name no market, or standard input twice, or no match for `--all`
abbrev pub NameNoFiles : List Row → Type 0
NameNoFiles rows =
    (first_of (codes "MARKET") rows ≡ None) ⊎ ((first_of (codes "MARKET") rows ≡ Some (codes "-")) × (first_of (codes "MATCH") rows ≡ Some (codes "-")))
    ⊎ ((first_of (codes "MATCH") rows ≡ None) × (is_given_in (codes "all") rows ≡ true))

-- the command refuses the words for another reason than help, or they name no market, or standard input twice, or no match
-- for `--all`
abbrev pub AreMisuse : List Text → Type 0
AreMisuse words = AreRefused nrcheck words ⊎ NameNoFiles (matches_of nrcheck words)
