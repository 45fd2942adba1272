use Rattle.mt_file_programs.proofs.WordFacts.{passed_on}
use Rattle.clap.specs.Words.{found_of, rows_of}
use Rattle.mt_file_programs.specs.Unasked.{IsMisuseBy}
use Rattle.mt_nrcheck.specs.CommandLine.{NameNoFiles}
use Rattle.mt_nrcheck.proofs.AskedFacts.{misuse_of_files}
use Rattle.mt_nrcheck.proofs.command.check_asked.Goals as goal

pub returns-in_err-files-clause-unasked : goal.returns-in_err-files-clause-unasked
returns-in_err-files-clause-unasked c =
    passed_on (IsMisuseBy (NameNoFiles (rows_of (found_of c.args.matches.now)))) c.from_residual.result _ c.from_residual.ensures.1
    (misuse_of_files (rows_of (found_of c.args.matches.now)) _ c.requires c.in_err-files.ensures.unasked)

pub returns-clause-request : goal.returns-clause-request
returns-clause-request c = (c.in_ok-files.ensures.files, c.is_given.ensures)
