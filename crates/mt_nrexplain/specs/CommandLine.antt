-- The command line `nrexplain MARKET MATCH [ID..] [--public]`, a simple command in the terms of the crate `clap`, and
-- what its words ask for.
use Rattle.std.specs.Prelude.{◌≡◌, List, [], Some, codes, map, string_bytes, unwrap_or}
use Rattle.clap.specs.Words.{App, Row, Rule, Text, all_of, matches_of, new_rule, with_rule}
use Rattle.clap.specs.declared.builder.action.ArgAction.TheVariants.{Append}
use Rattle.mt_file_programs.specs.CommandLine.{NameFiles, flag_rule, is_given_in, two_files_app}
use Rattle.mt_nrexplain.specs.declared.command.Request.{Request}

-- `[ID..]`, any number of ids
abbrev pub id_rule : Rule
id_rule = record (new_rule (codes "ID")) { action = Some Append }

-- the command: MARKET, MATCH, the ids, and `--public`
abbrev pub nrexplain : App
nrexplain = with_rule (with_rule (two_files_app (codes "nrexplain")) id_rule) (flag_rule (codes "public"))

-- the ids among the matches
abbrev pub ids_in : List Row → List Text
ids_in rows = unwrap_or (all_of (codes "ID") rows) []

-- the words are taken, name these files and ids, and say whether the explanation is public
pub record IsAskedBy (words : List Text) (request : Request) : Type 0 where
  pub files : NameFiles nrexplain words (string_bytes request.files.market) (string_bytes request.files.matched)
  pub ids : map string_bytes request.ids.items ≡ ids_in (matches_of nrexplain words)
  pub is_public : request.is_public ≡ is_given_in (codes "public") (matches_of nrexplain words)
