use Rattle.std.proofs.Common.{not, sym, ap, subst}
use Rattle.mt_terms.specs.Registration.Passes.{is_same_pair}
use Rattle.mt_records.specs.Fields.{pairs_left, pair_seen}
use Rattle.mt_passes.proofs.RepeatFacts.{SeesEach, same_pairs, stands_twice, sees_next}
use Rattle.mt_passes.proofs.repeats.has_repeated_pair.Goals as goal

pub returns-then-not-branch : goal.returns-then-not-branch
returns-then-not-branch c =
    ap not
    (sym (stands_twice is_same_pair same_pairs c.loop-pair.seen (pairs_left c.next.new.self) (pairs_left c.args.pairs) (pair_seen c.in-Some.pair)
    (subst (λ left. SeesEach is_same_pair c.loop-pair.seen left (pairs_left c.args.pairs)) c.in-Some.ensures.steps c.loop-pair.invariant) _ c.in_ok-add.ensures.added c.if-not-branch.true))

pub loop-pair-preserved : goal.loop-pair-preserved
loop-pair-preserved c =
    sees_next is_same_pair same_pairs c.loop-pair.seen (pairs_left c.next.new.self) (pairs_left c.args.pairs) (pair_seen c.in-Some.pair)
    (subst (λ left. SeesEach is_same_pair c.loop-pair.seen left (pairs_left c.args.pairs)) c.in-Some.ensures.steps c.loop-pair.invariant) _ c.in_ok-add.ensures.added c.add.new.self c.in_ok-add.ensures.pairs c.if-not-branch.false
