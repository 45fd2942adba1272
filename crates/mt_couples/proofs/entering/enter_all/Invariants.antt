use Rattle.std.proofs.Common.{◌≡◌}
use Rattle.mt_couples.specs.Staged.{IsBetweenEntries}
use Rattle.mt_rounds.proofs.EnteringFacts.{IsEntering, IsLeading}
use Rattle.mt_couples.proofs.entering.enter_all.Given as goal

abbrev pub invariant-loop-number : goal.invariant-loop-number
invariant-loop-number g l = record {
  market : l.stage.assignment.market ≡ l.fn.roster.market;
  between : IsBetweenEntries l.number l.stage;
  entering : IsEntering l.fn.roster.market l.fn.singles.places 0 l.fn.budget l.number l.stage.assignment.places l.left;
  leads : IsLeading l.fn.roster.market l.fn.singles.places l.fn.budget l.number l.stage.assignment.places l.left;
}
