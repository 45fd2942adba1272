use Rattle.mt_round_laws.proofs.RoundsKeep.{fitting_round}
use Rattle.mt_round_laws.proofs.rounds.round_fits.Goals as goal

pub returns : goal.returns
returns c = fitting_round
