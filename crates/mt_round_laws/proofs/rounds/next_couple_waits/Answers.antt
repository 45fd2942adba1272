use Rattle.mt_round_laws.proofs.RoundsStage.{next_couple_waits_lem}
use Rattle.mt_round_laws.proofs.rounds.next_couple_waits.Goals as goal

pub returns : goal.returns
returns c = next_couple_waits_lem
