use Rattle.mt_nrcheck.proofs.StatusFacts.{exit_of_faults}
use Rattle.mt_nrcheck.proofs.list_file.Goals as goal

pub returns : goal.returns
returns g c = λ words taken. exit_of_faults words _ _ _ c.list_faults-status.result c.list_faults-status.ensures taken
