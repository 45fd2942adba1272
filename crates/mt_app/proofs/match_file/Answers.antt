use Rattle.mt_app.proofs.Statuses.{exit_of_run}
use Rattle.mt_app.proofs.match_file.Goals as goal

pub returns : goal.returns
returns g c words taken flag =
    exit_of_run words _ _ _ _ _ c.run_match-ended.result c.status_told.result c.run_match-ended.ensures c.status_told.ensures.status taken flag
