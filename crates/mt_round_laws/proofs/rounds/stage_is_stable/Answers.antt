use Rattle.mt_round_laws.proofs.RoundsStage.{stage_is_stable_lem}
use Rattle.mt_round_laws.proofs.rounds.stage_is_stable.Goals as goal

pub returns : goal.returns
returns c = stage_is_stable_lem
