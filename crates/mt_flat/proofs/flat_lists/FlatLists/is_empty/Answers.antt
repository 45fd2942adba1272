use Rattle.std.proofs.Common.{◌≡◌, ap, ◌∙◌, arith, length}
use Rattle.std.specs.Prelude.{◌==◌, vec_len}
use Rattle.mt_flat.proofs.FlatListsFacts.{length-pieces}
use Rattle.mt_flat.proofs.flat_lists.FlatLists.is_empty.Goals as goal

pub returns : goal.returns
returns g c =
    let e : vec_len c.self.inside.ends ≡ length c.args.self.now = omega (arith, length-pieces 0 c.self.inside.ends.items c.self.inside.items.items, ap length c.self.view_is) in
    c.is_empty.ensures ∙ ap (λ n. n == 0) e
