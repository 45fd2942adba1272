use Rattle.mt_rounds.specs.Returning.{state_in}
use Rattle.mt_couples.specs.Staged.{state_of, IsWatched, KeepsStage}
use Rattle.mt_rounds.proofs.ReturningFacts.{IsKeptOnWay, IsReached}
use Rattle.mt_rounds.proofs.RoundFacts.{IsSettling}
use Rattle.mt_couples.proofs.rounds.Stage.settle.Given as goal

abbrev pub invariant-loop-agent : goal.invariant-loop-agent
invariant-loop-agent g l = record {
  settling : IsSettling l.initial.self.last l.initial.self.quiet l.initial.rest l.initial.self.assignment l.self.assignment l.initial.self.waiting l.self.waiting l.rest;
  watched : IsWatched l.self;
  keeps : KeepsStage l.initial.self l.self;
  made : IsReached l.initial.self.assignment.market l.initial.self.last (state_of l.initial.self) (state_of l.self);
  kept : IsKeptOnWay l.initial.self.assignment.market l.initial.self.last (state_of l.initial.self) (state_of l.self) (state_in l.returning);
}

abbrev pub decreases-loop-agent : goal.decreases-loop-agent
decreases-loop-agent g l = l.rest
