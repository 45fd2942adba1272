use Rattle.mt_file_programs.specs.CommandLine.{AreMisuse}
use Rattle.mt_program.specs.CommandLine.{texts_of}
use Rattle.mt_file_programs.proofs.ExitFacts.{exit_of_unasked}
use Rattle.mt_nrexplain.specs.CommandLine.{nrexplain}
use Rattle.mt_nrexplain.proofs.StatusFacts.{exit_of_explanation, own}
use Rattle.mt_nrexplain.proofs.obey.Goals as goal

pub returns-in-Ok : goal.returns-in-Ok
returns-in-Ok g c =
    exit_of_explanation (texts_of c.args.words.now) _ _ _ _ _ _ c.explain_match-status.result c.explain_match-status.ensures c.in-Ok.ensures.request.files.taken

pub returns-in-Err : goal.returns-in-Err
returns-in-Err g c =
    exit_of_unasked nrexplain _ (AreMisuse nrexplain (texts_of c.args.words.now)) (texts_of c.args.words.now) own c.in-Err.unasked c.end_unasked.result c.in-Err.ensures.unasked c.end_unasked.ensures
