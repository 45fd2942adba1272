use Rattle.mt_file_programs.proofs.ExitFacts.{status_by_told}
use Rattle.mt_file_programs.proofs.unasked.end_unasked.Goals as goal

pub returns : goal.returns
returns c = status_by_told _ _ _ _ _ _ _ c.args.unasked.now c.tell_unasked.result c.tell_unasked.ensures
