use Rattle.mt_round_laws.proofs.RoundsStage.{stage_fits_lem}
use Rattle.mt_round_laws.proofs.rounds.stage_fits.Goals as goal

pub returns : goal.returns
returns c = stage_fits_lem
