use Rattle.std.proofs.Common.{◌≡◌, ◌∙◌, ◌||◌, ◌&&◌, ◌==◌, not, Bool, ap, sym, true, false, Some}
use Rattle.std.specs.Option.{option_eq}
use Rattle.std.proofs.lemmas.Bool.{not-true, not-false}
use Rattle.mt_terms.specs.Lists.{has}
use Rattle.mt_terms.specs.Matching.{at, is_program}
use Rattle.mt_assignment.specs.Moves.{is_left_by_movers}
use Rattle.mt_assignment.proofs.MoveSteps.{left_there, stays_there, unplaced_there, next_seat, no_more}
use Rattle.mt_assignment.proofs.assignment.Assignment.add_left_by_movers.Goals as goal
use Rattle.mt_assignment.proofs.assignment.Assignment.add_left_by_movers.Goals.{in-Some+then-ne+in_ok-insert, in-Some+else-ne, in_default}

pub loop-seat-preserved : goal.loop-seat-preserved
loop-seat-preserved c = λ p.
    let places = c.args.self.now.places in
    let s = c.seat-item.result in
    let before = has c.loop-seat.left p in
    let step = λ (new : Bool) (is : new ≡ (before || (at places p s.0 && not (is_program p s.1)))).
    next_seat (λ t. at places p t.0 && not (is_program p t.1)) c.args.sent.now c.loop-seat.seat-index s before new
    (has c.args.left.now p || is_left_by_movers places c.args.sent.now p) c.loop-seat-test.true c.seat-item.is (c.loop-seat.invariant p) is in
    elim c.match-place.branch [
      | in-Some+then-ne+in_ok-insert w ↦
          let elsewhere : option_eq ◌==◌ s.1 (Some w.in-Some.program) ≡ false = not-true _ (sym w.ne.ensures ∙ w.if-ne.true) in
          step (has c.match-place.left p) (ap (λ ps. has ps p) w.left-is ∙ w.in_ok-insert.ensures p ∙ ap (λ (b : Bool). before || b) (left_there places s w.in-Some.program p w.in-Some.ensures elsewhere))
      | in-Some+else-ne w ↦
          let there : option_eq ◌==◌ s.1 (Some w.in-Some.program) ≡ true = not-false _ (sym w.ne.ensures ∙ w.if-ne.false) in
          step (has c.match-place.left p) (ap (λ ps. has ps p) w.left-is ∙ no_more before _ (stays_there places s w.in-Some.program p w.in-Some.ensures there))
      | in_default w ↦
          step (has c.match-place.left p) (ap (λ ps. has ps p) w.left-is ∙ no_more before _ (unplaced_there places s p w.in_default.ensures))
    ]
