use Rattle.mt_budget_laws.proofs.ReturningFacts.{returning_stage_never_ends_lem}
use Rattle.mt_budget_laws.proofs.returning.returning_stage_never_ends.Goals as goal

pub returns : goal.returns
returns c = returning_stage_never_ends_lem
