use Rattle.std.proofs.Common.{◌∙◌, ◌||◌, Bool, ap, sym}
use Rattle.mt_terms.specs.Lists.{has}
use Rattle.mt_assignment.proofs.MoveSteps.{kept_there}
use Rattle.mt_assignment.proofs.assignment.Assignment.add_kept.Goals as goal

pub returns-in_ok-insert : goal.returns-in_ok-insert
returns-in_ok-insert c = λ p.
    c.in_ok-insert.ensures p
    ∙ ap (λ (b : Bool). has c.args.left.now p || b)
    (kept_there c.args.self.now.market c.args.self.now.places c.args.applicant c.in-Some.program p c.in-Some.ensures (sym c.is_kept.ensures ∙ c.if-is_kept.true))
