use Rattle.std.proofs.Common.{◌≡◌, ap, ◌∙◌, ◌++◌, ◌∷◌, [], arith, length, length-append}
use Rattle.std.proofs.lemmas.Grind.{common_steps}
use Rattle.mt_flat.proofs.FlatListsFacts.{AreEnds-append, pieces-append}
use Rattle.mt_flat.proofs.flat_lists.FlatLists.push_list.Goals as goal

pub invariant_of-self-in_default : goal.invariant_of-self-in_default
invariant_of-self-in_default g c =
    let n : c.len.result ≡ length (c.self.inside.items.items ++ c.args.list.now) = omega (arith, ap length c.in_ok-extend_from_slice.ensures.items) in
    rw (c.in_ok-extend_from_slice.ensures.items, c.in_default.ensures.items, n)
    (AreEnds-append 0 c.self.inside.ends.items _ _ c.self.invariant (omega (arith, length-append c.self.inside.items.items c.args.list.now)))

pub returns-clause-ok : goal.returns-clause-ok
returns-clause-ok g c =
    let n : c.len.result ≡ length (c.self.inside.items.items ++ c.args.list.now) = omega (arith, ap length c.in_ok-extend_from_slice.ensures.items) in
    rw (c.in_ok-extend_from_slice.ensures.items, c.in_default.ensures.items, n)
    (pieces-append 0 c.self.inside.ends.items c.self.inside.items.items c.args.list.now c.self.invariant ∙ ap (λ ls. ls ++ c.args.list.now ∷ []) c.self.view_is)

pub returns-in-Err-clause-err : goal.returns-in-Err-clause-err
returns-in-Err-clause-err g c = grind (arith, common_steps)

pub invariant_of-self : goal.invariant_of-self
invariant_of-self g c = grind arith

pub invariant_of-self-in-Err : goal.invariant_of-self-in-Err
invariant_of-self-in-Err g c = grind arith
