use Rattle.std.proofs.Common.{not, sym, ap, subst}
use Rattle.std.specs.Prelude.{bytes_eq}
use Rattle.mt_lists.specs.Rows.{fields_left}
use Rattle.mt_passes.proofs.RepeatFacts.{SeesEach, same_ids, stands_twice, sees_next}
use Rattle.mt_passes.proofs.repeats.has_repeat.Goals as goal

pub returns-then-not-branch : goal.returns-then-not-branch
returns-then-not-branch c =
    ap not
    (sym (stands_twice bytes_eq same_ids c.loop-id.seen (fields_left c.next.new.self) (fields_left c.args.list) c.in-Some.id.now
    (subst (λ left. SeesEach bytes_eq c.loop-id.seen left (fields_left c.args.list)) c.in-Some.ensures.steps c.loop-id.invariant) _ c.in_ok-add.ensures.added c.if-not-branch.true))

pub loop-id-preserved : goal.loop-id-preserved
loop-id-preserved c =
    sees_next bytes_eq same_ids c.loop-id.seen (fields_left c.next.new.self) (fields_left c.args.list) c.in-Some.id.now
    (subst (λ left. SeesEach bytes_eq c.loop-id.seen left (fields_left c.args.list)) c.in-Some.ensures.steps c.loop-id.invariant) _ c.in_ok-add.ensures.added c.add.new.self c.in_ok-add.ensures.ids c.if-not-branch.false
