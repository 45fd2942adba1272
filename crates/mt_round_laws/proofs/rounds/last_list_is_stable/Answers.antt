use Rattle.mt_round_laws.proofs.RoundsStage.{last_list_is_stable_lem}
use Rattle.mt_round_laws.proofs.rounds.last_list_is_stable.Goals as goal

pub returns : goal.returns
returns c = last_list_is_stable_lem
