use Rattle.std.proofs.Common.{◌||◌, drop}
use Rattle.mt_terms.specs.Lists.{has}
use Rattle.mt_assignment.specs.Moves.{is_left_by_movers}
use Rattle.mt_assignment.proofs.MoveSteps.{AreOnTheWay}
use Rattle.mt_assignment.proofs.assignment.Assignment.add_left_by_movers.Given as goal

abbrev pub invariant-loop-seat : goal.invariant-loop-seat
invariant-loop-seat l =
    AreOnTheWay l.left (is_left_by_movers l.self.places (drop l.seat-index l.sent)) (λ p. has l.initial.left p || is_left_by_movers l.self.places l.sent p)
