use Rattle.mt_program.specs.CommandLine.{texts_of}
use Rattle.mt_file_programs.proofs.ExitFacts.{exit_of_unasked}
use Rattle.mt_nrcheck.specs.CommandLine.{AreMisuse, nrcheck}
use Rattle.mt_nrcheck.proofs.StatusFacts.{own}
use Rattle.mt_nrcheck.proofs.obey.Goals as goal

pub returns-in-Ok-Faults : goal.returns-in-Ok-Faults
returns-in-Ok-Faults g c = c.list_file.ensures (texts_of c.args.words.now) c.in-Ok-Faults.ensures.request.taken

pub returns-in-Ok-Check : goal.returns-in-Ok-Check
returns-in-Ok-Check g c = c.check_files.ensures (texts_of c.args.words.now) c.in-Ok-Check.ensures.request.taken

pub returns-in-Err : goal.returns-in-Err
returns-in-Err g c =
    exit_of_unasked nrcheck _ (AreMisuse (texts_of c.args.words.now)) (texts_of c.args.words.now) own c.in-Err.unasked c.end_unasked.result c.in-Err.ensures.unasked c.end_unasked.ensures
