use Rattle.std.proofs.Common.{◌≡◌, ap, ◌∙◌, ◌++◌, ◌∷◌, [], arith, length}
use Rattle.mt_flat.proofs.FlatListsFacts.{AreEnds-push, pieces-begin}
use Rattle.mt_flat.proofs.flat_lists.FlatLists.begin.Goals as goal

pub invariant_of-self-2 : goal.invariant_of-self-2
invariant_of-self-2 g c =
    let e : c.len.result ≡ length c.self.inside.items.items = omega arith in
    rw (c.in_ok-push.ensures.items, e) (AreEnds-push 0 c.self.inside.ends.items _ c.self.invariant)

pub returns-clause-ok : goal.returns-clause-ok
returns-clause-ok g c =
    let e : c.len.result ≡ length c.self.inside.items.items = omega arith in
    rw (c.in_ok-push.ensures.items, e) (pieces-begin 0 c.self.inside.ends.items c.self.inside.items.items c.self.invariant ∙ ap (λ ls. ls ++ [] ∷ []) c.self.view_is)
