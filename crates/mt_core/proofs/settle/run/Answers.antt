use Rattle.std.proofs.Common.{◌≡◌, ◌≢◌, ℕ, if◌then◌else◌, take, sym, ap, ◌∙◌, arith, rules}
use Rattle.std.proofs.lemmas.List.{take_all}
use Rattle.mt_terms.specs.Floor.{after, after_all, due_count, is_due}
use Rattle.mt_terms.specs.declared.events.Reply.TheVariants.{NotDue}
use Rattle.mt_floor_laws.proofs.FloorRuns.{due_at_most_lem}
use Rattle.mt_core.specs.Floors.{floor_of}
use Rattle.mt_core.proofs.Reaching.{after_all-next, due_count-next}
use Rattle.mt_core.proofs.Settling.{due_from_reply, not_due_from_reply}
use Rattle.mt_core.proofs.settle.run.Goals as goal
use Rattle.mt_core.proofs.settle.run.Goals.{then-ne, else-ne}

pub loop-event-preserved : goal.loop-event-preserved
loop-event-preserved c =
    let m = c.args.ranks.now.market in
    let f = floor_of m c.args.floor.now in
    let g = floor_of m c.loop-event.floor in
    let i = c.loop-event.event-index in
    let e = c.event-item.result in
    let next = due_count-next m f c.args.events.now i e c.loop-event-test.true c.event-item.is in
    record {
      opened = c.apply.ensures.opened;
      recorded = c.apply.ensures.recorded;
      legal = λ h. c.apply.ensures.legal (c.loop-event.invariant.legal h);
      strict = λ h. c.apply.ensures.strict (c.loop-event.invariant.strict h);
      floor = c.apply.ensures.floor ∙ ap (λ g. after m g c.event-item.result) c.loop-event.invariant.floor
          ∙ sym (after_all-next m f c.args.events.now i c.event-item.result c.loop-event-test.true c.event-item.is);
      count = elim c.if-ne.branch [
        | then-ne w ↦
            let differs : c.apply.result ≢ NotDue = search rules in
            let due = due_from_reply m g e (λ same. differs (c.apply.ensures.reply ∙ same)) in
            let one : (if is_due m (after_all m f (take i c.args.events.now)) e then 1 else 0) ≡ 1 = ap {B = ℕ} (λ b. if b then 1 else 0) (ap (λ x. is_due m x e) (sym c.loop-event.invariant.floor) ∙ due) in
            omega (arith, w.due-is, c.loop-event.invariant.count, next, one)
        | else-ne w ↦
            let same : c.apply.result ≡ NotDue = search rules in
            let not_due = not_due_from_reply m g e (sym c.apply.ensures.reply ∙ same) in
            let none : (if is_due m (after_all m f (take i c.args.events.now)) e then 1 else 0) ≡ 0 = ap {B = ℕ} (λ b. if b then 1 else 0) (ap (λ x. is_due m x e) (sym c.loop-event.invariant.floor) ∙ not_due) in
            omega (arith, w.due-is, c.loop-event.invariant.count, next, none)
      ];
      few = elim c.if-ne.branch [ then-ne w ↦ omega (arith, w.due-is) | else-ne w ↦ omega (arith, w.due-is) ];
    }

pub returns-clause-at_most : goal.returns-clause-at_most
returns-clause-at_most c =
    let m = c.args.ranks.now.market in
    let f = floor_of m c.args.floor.now in
    omega (arith, c.loop-event.invariant.count, due_at_most_lem m f c.requires.recorded (take c.loop-event.event-index c.args.events.now))

pub returns-clause-floor : goal.returns-clause-floor
returns-clause-floor c =
    let m = c.args.ranks.now.market in
    c.loop-event.invariant.floor ∙ ap (after_all m (floor_of m c.args.floor.now)) (take_all c.loop-event.event-index c.args.events.now (omega (arith, c.loop-event-test.false)))

pub returns-clause-count : goal.returns-clause-count
returns-clause-count c =
    let m = c.args.ranks.now.market in
    c.loop-event.invariant.count ∙ ap (due_count m (floor_of m c.args.floor.now)) (take_all c.loop-event.event-index c.args.events.now (omega (arith, c.loop-event-test.false)))
