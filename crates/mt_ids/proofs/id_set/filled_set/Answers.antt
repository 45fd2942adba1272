use Rattle.std.proofs.Common.{ap, sym, arith, ◌∙◌}
use Rattle.std.proofs.lemmas.List.{take_all}
use Rattle.std.specs.Prelude.{bytes_eq}
use Rattle.mt_terms.specs.Registration.Ids.{all_differ}
use Rattle.mt_ids.proofs.IdFacts.{stands_twice, has_next}
use Rattle.mt_ids.proofs.id_set.filled_set.Goals as goal

pub loop-i-init : goal.loop-i-init
loop-i-init c = ((c.in_ok-set.ensures.ids, ap (all_differ bytes_eq) c.in_ok-set.ensures.ids), c.in_ok-set.ensures.seed ∙ c.seed_of.ensures)

pub list-requires : goal.list-requires
list-requires c = omega (arith, c.loop-i-test.true, c.len-i-end.ensures)

pub returns-then-not-branch-clause-differ : goal.returns-then-not-branch-clause-differ
returns-then-not-branch-clause-differ c =
    sym (stands_twice c.args.names.now c.loop-i.set.ids c.loop-i.i c.list.result.now c.loop-i.invariant.0 (omega arith) c.list.ensures _ c.in_ok-add.ensures.added c.if-not-branch.true)

pub loop-i-preserved : goal.loop-i-preserved
loop-i-preserved c = (
  has_next c.args.names.now c.loop-i.set.ids c.loop-i.i c.list.result.now c.loop-i.invariant.0 (omega arith) c.list.ensures _ c.in_ok-add.ensures.added c.add.new.self.ids c.in_ok-add.ensures.ids c.if-not-branch.false,
  c.in_ok-add.ensures.seed ∙ c.loop-i.invariant.1,
)

pub returns-clause-ids : goal.returns-clause-ids
returns-clause-ids c = c.loop-i.invariant.0.0 ∙ take_all c.loop-i.i c.args.names.now (omega (arith, c.loop-i-test.false, c.len-i-end.ensures))

pub returns-clause-differ : goal.returns-clause-differ
returns-clause-differ c =
    sym c.loop-i.invariant.0.1 ∙ ap (all_differ bytes_eq) (c.loop-i.invariant.0.0 ∙ take_all c.loop-i.i c.args.names.now (omega (arith, c.loop-i-test.false, c.len-i-end.ensures)))

pub returns-clause-seed : goal.returns-clause-seed
returns-clause-seed c = c.loop-i.invariant.1
