use Rattle.std.proofs.Common.{arith, ap, length}
use Rattle.mt_ranks.specs.Rows.{Filling}
use Rattle.mt_ranks.proofs.RowFacts.{length-parts}
use Rattle.mt_ranks.proofs.rows.Rows.row.Goals as goal

pub part-requires-clause-within : goal.part-requires-clause-within
part-requires-clause-within c =
    omega (arith, c.requires, length-parts c.self.inside.starts.items c.self.inside.ends.items c.self.inside.items.items c.self.invariant, ap (λ (f : Filling). length f.lists) c.self.view_is)
