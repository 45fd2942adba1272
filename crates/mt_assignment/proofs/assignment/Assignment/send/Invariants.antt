use Rattle.std.proofs.Common.{drop}
use Rattle.mt_terms.specs.Matching.{send}
use Rattle.mt_assignment.proofs.MoveSteps.{IsOnTheWay}
use Rattle.mt_assignment.proofs.assignment.Assignment.send.Given as goal

abbrev pub invariant-loop-applicant : goal.invariant-loop-applicant
invariant-loop-applicant l = IsOnTheWay l.initial.self l.self (send (drop l.applicant-index l.sent)) (send l.sent l.initial.self.places)
