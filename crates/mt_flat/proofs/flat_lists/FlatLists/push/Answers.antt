use Rattle.std.proofs.Common.{◌≡◌, suc, ◌+◌, ◌-◌, arith, ap, ◌∙◌, length, length-append}
use Rattle.std.proofs.lemmas.Grind.{common_steps}
use Rattle.mt_flat.specs.FlatLists.{with_last}
use Rattle.mt_flat.proofs.FlatListsFacts.{AreEnds-last, pieces-push, length-pieces}
use Rattle.mt_flat.proofs.flat_lists.FlatLists.push.Goals as goal

pub invariant_of-self-2 : goal.invariant_of-self-2
invariant_of-self-2 g c =
    let n : suc (c.len-last.result - 1) ≡ length c.self.inside.ends.items =
    omega (arith, c.requires, length-pieces 0 c.self.inside.ends.items c.self.inside.items.items, ap length c.self.view_is) in
    let e : c.len.result ≡ length c.self.inside.items.items + 1 = omega (arith, ap length c.in_ok-push.ensures.items, length-append c.self.inside.items.items) in
    let l : length c.push.new.self.items ≡ length c.self.inside.items.items + 1 = omega arith in
    rw (e, l) (AreEnds-last 0 c.self.inside.ends.items _ (c.len-last.result - 1) c.self.invariant n)

pub returns-clause-ok : goal.returns-clause-ok
returns-clause-ok g c =
    let n : suc (c.len-last.result - 1) ≡ length c.self.inside.ends.items =
    omega (arith, c.requires, length-pieces 0 c.self.inside.ends.items c.self.inside.items.items, ap length c.self.view_is) in
    let e : c.len.result ≡ length c.self.inside.items.items + 1 = omega (arith, ap length c.in_ok-push.ensures.items, length-append c.self.inside.items.items) in
    rw (e, c.in_ok-push.ensures.items)
    (pieces-push 0 c.self.inside.ends.items c.self.inside.items.items c.args.item (c.len-last.result - 1) c.self.invariant n ∙ ap (λ ls. with_last ls c.args.item) c.self.view_is)

pub overflow_sub-last : goal.overflow_sub-last
overflow_sub-last g c = grind (arith, common_steps)

pub index_mut-requires : goal.index_mut-requires
index_mut-requires g c = grind (arith, common_steps)

pub invariant_of-self : goal.invariant_of-self
invariant_of-self g c = grind arith
