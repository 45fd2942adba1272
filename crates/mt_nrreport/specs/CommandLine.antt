-- The command line `nrreport MARKET MATCH [--html]`, a simple command in the terms of the crate `clap`, and what its
-- words ask for.
use Rattle.std.specs.Prelude.{◌≡◌, Bool, List, codes, if◌then◌else◌, string_bytes}
use Rattle.clap.specs.Words.{App, Text, matches_of, with_rule}
use Rattle.mt_file_programs.specs.CommandLine.{NameFiles, flag_rule, is_given_in, two_files_app}
use Rattle.mt_reported.specs.declared.form.Form.{Form}
use Rattle.mt_reported.specs.declared.form.Form.TheVariants.{Lines, Page}
use Rattle.mt_nrreport.specs.declared.command.Request.{Request}

-- the command: MARKET, MATCH, and `--html`
abbrev pub nrreport : App
nrreport = with_rule (two_files_app (codes "nrreport")) (flag_rule (codes "html"))

-- a page if `--html` is given, and else lines
abbrev pub form_by : Bool → Form
form_by is_page = if is_page then Page else Lines

-- the words are taken, name these files, and say in which form the numbers are written
pub record IsAskedBy (words : List Text) (request : Request) : Type 0 where
  pub files : NameFiles nrreport words (string_bytes request.files.market) (string_bytes request.files.matched)
  pub form : request.form ≡ form_by (is_given_in (codes "html") (matches_of nrreport words))
