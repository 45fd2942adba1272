use Rattle.std.proofs.Common.{◌≡◌}
use Rattle.mt_couples.specs.Staged.{IsBetweenEntries}
use Rattle.mt_rounds.proofs.EnteringFacts.{IsEntering}
use Rattle.mt_couples.proofs.entering.enter_from.Given as goal

abbrev pub invariant-loop-number : goal.invariant-loop-number
invariant-loop-number g l = record {
  market : l.stage.assignment.market ≡ l.fn.roster.market;
  between : IsBetweenEntries l.number l.stage;
  entering : IsEntering l.fn.roster.market l.fn.start.matched.places l.fn.start.entered l.fn.start.left l.number l.stage.assignment.places l.left;
}
