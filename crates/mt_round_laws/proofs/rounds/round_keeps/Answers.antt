use Rattle.mt_round_laws.proofs.RoundsKeep.{keep_round}
use Rattle.mt_round_laws.proofs.rounds.round_keeps.Goals as goal

pub returns : goal.returns
returns c = keep_round
