use Rattle.std.proofs.Common.{drop}
use Rattle.mt_terms.specs.Matching.{unplaced}
use Rattle.mt_assignment.specs.Moves.{all_members}
use Rattle.mt_assignment.proofs.MoveSteps.{IsOnTheWay}
use Rattle.mt_assignment.proofs.assignment.Assignment.take_out.Given as goal

abbrev pub invariant-loop-applicant : goal.invariant-loop-applicant
invariant-loop-applicant l =
    IsOnTheWay l.initial.self l.self (unplaced (all_members l.initial.self.market (drop l.applicant-index l.displaced)))
    (unplaced (all_members l.initial.self.market l.displaced) l.initial.self.places)
