use Rattle.std.proofs.Common.{◌≡◌}
use Rattle.mt_assignment.specs.Assigned.{assignment}
use Rattle.mt_couples.specs.Staged.{IsBetweenEntries}
use Rattle.mt_couples.proofs.rounds.Stage.entered.Given as goal

abbrev pub invariant-loop-number : goal.invariant-loop-number
invariant-loop-number g l = record {
  assigned : l.stage.assignment ≡ assignment l.fn.roster.market l.fn.matched.places;
  between : IsBetweenEntries l.number l.stage;
}
