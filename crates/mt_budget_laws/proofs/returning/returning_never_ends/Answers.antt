use Rattle.mt_budget_laws.proofs.ReturningFacts.{returning_never_ends_lem}
use Rattle.mt_budget_laws.proofs.returning.returning_never_ends.Goals as goal

pub returns : goal.returns
returns c = returning_never_ends_lem
