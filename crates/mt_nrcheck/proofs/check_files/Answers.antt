use Rattle.mt_nrcheck.proofs.StatusFacts.{exit_of_either}
use Rattle.mt_nrcheck.proofs.check_files.Goals as goal

pub returns : goal.returns
returns g c = λ words taken. exit_of_either words _ _ _ _ _ c.check_match-status.result c.check_match-status.ensures taken
