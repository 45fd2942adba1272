use Rattle.std.proofs.Common.{ap, arith, length}
use Rattle.mt_flat.proofs.FlatListsFacts.{length-pieces}
use Rattle.mt_flat.proofs.flat_lists.FlatLists.len.Goals as goal

pub returns : goal.returns
returns g c = omega (arith, length-pieces 0 c.self.inside.ends.items c.self.inside.items.items, ap length c.self.view_is)
