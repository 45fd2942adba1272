use Rattle.std.proofs.Common.{arith, ap, ◌∙◌, length, get_or, []}
use Rattle.mt_flat.proofs.FlatListsFacts.{length-pieces}
use Rattle.mt_flat.proofs.flat_lists.FlatLists.list.Goals as goal

pub piece-requires : goal.piece-requires
piece-requires g c = record {
  in_order = rw (c.deref.ensures.value, c.deref-2.ensures.value) c.self.invariant;
  within = rw c.deref-2.ensures.value (omega (arith, c.requires, length-pieces 0 c.self.inside.ends.items c.self.inside.items.items, ap length c.self.view_is));
}

pub returns : goal.returns
returns g c = (rw (c.deref.ensures.value, c.deref-2.ensures.value) at c.piece.ensures) ∙ ap (λ ls. get_or ls c.args.number []) c.self.view_is
