use Rattle.mt_budget_laws.proofs.RoundsCounted.{stage_rounds_lem}
use Rattle.mt_budget_laws.proofs.rounds.stage_rounds.Goals as goal

pub returns : goal.returns
returns c = stage_rounds_lem
