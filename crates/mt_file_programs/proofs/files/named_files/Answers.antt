use Rattle.std.proofs.Common.{List, string_bytes, subst}
use Rattle.clap.specs.Words.{Row, app_of, found_of, rows_of}
use Rattle.mt_file_programs.specs.CommandLine.{AreMisuse, NameFilesIn}
use Rattle.mt_program.specs.CommandLine.{texts_of}
use Rattle.mt_file_programs.specs.Unasked.{IsUnaskedBy}
use Rattle.mt_file_programs.proofs.WordFacts.{misuse_by_named, misuse_by_refusal, passed_on}
use Rattle.mt_file_programs.proofs.files.named_files.Goals as goal

pub returns-in_err-matches-clause-unasked : goal.returns-in_err-matches-clause-unasked
returns-in_err-matches-clause-unasked c =
    let app = app_of c.args.command in
    let words = texts_of c.args.words.now in
    passed_on (IsUnaskedBy app (AreMisuse app words) words) c.from_residual.result _ c.from_residual.ensures.1
    (misuse_by_refusal app words _ c.in_err-matches.ensures.unasked)

pub returns-in_err-files-clause-unasked : goal.returns-in_err-files-clause-unasked
returns-in_err-files-clause-unasked c =
    let app = app_of c.args.command in
    let words = texts_of c.args.words.now in
    passed_on (IsUnaskedBy app (AreMisuse app words) words) c.from_residual-in_err-files.result _ c.from_residual-in_err-files.ensures.1
    (misuse_by_named app words (rows_of (found_of c.in_ok-matches.matches)) _ c.in_ok-matches.ensures.rows c.in_err-files.ensures.unasked)

pub returns-clause-files : goal.returns-clause-files
returns-clause-files c = record {
  taken = c.in_ok-matches.ensures.taken;
  files = subst (λ (rows : List Row). NameFilesIn rows (string_bytes c.in_ok-files.files.market) (string_bytes c.in_ok-files.files.matched)) c.in_ok-matches.ensures.rows
      c.in_ok-files.ensures.files;
}
