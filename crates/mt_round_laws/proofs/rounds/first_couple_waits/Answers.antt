use Rattle.mt_round_laws.proofs.RoundsStage.{first_couple_waits_lem}
use Rattle.mt_round_laws.proofs.rounds.first_couple_waits.Goals as goal

pub returns : goal.returns
returns c = first_couple_waits_lem
