use Rattle.std.proofs.Common.{◌||◌, drop}
use Rattle.std.specs.List.{list_any}
use Rattle.mt_terms.specs.Lists.{has}
use Rattle.mt_assignment.specs.Moves.{all_members, is_kept_at}
use Rattle.mt_assignment.proofs.MoveSteps.{AreOnTheWay}
use Rattle.mt_assignment.proofs.assignment.Assignment.add_left_by_partners.Given as goal

abbrev pub invariant-loop-applicant : goal.invariant-loop-applicant
invariant-loop-applicant l =
    AreOnTheWay l.left (λ p. list_any (is_kept_at l.self.market l.self.places p) (all_members l.self.market (drop l.applicant-index l.displaced)))
    (λ p. has l.initial.left p || list_any (is_kept_at l.self.market l.self.places p) (all_members l.self.market l.displaced))
