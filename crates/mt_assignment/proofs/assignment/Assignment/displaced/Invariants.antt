use Rattle.std.proofs.Common.{◌≡◌, ◌++◌, drop}
use Rattle.mt_terms.specs.Rounds.{displaced}
use Rattle.mt_assignment.proofs.assignment.Assignment.displaced.Given as goal

abbrev pub invariant-loop-place : goal.invariant-loop-place
invariant-loop-place l = l.displaced.items ++ displaced l.self.market l.self.places (drop l.place-index l.sent) ≡ displaced l.self.market l.self.places l.sent
