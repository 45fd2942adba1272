use Rattle.std.proofs.Common.{sum, ap, arith, length}
use Rattle.mt_ranks.specs.Rows.{Filling}
use Rattle.mt_ranks.proofs.RowFacts.{sizes_fit}
use Rattle.mt_ranks.proofs.rows.Rows.room.Goals as goal

pub returns : goal.returns
returns c =
    let rows = c.self.inside in
    let fit = sizes_fit (length rows.items.items) rows.starts.items rows.ends.items c.self.invariant in
    let seen = ap (λ (f : Filling). sum f.sizes) c.self.view_is in
    omega (arith, fit, seen, c.len.ensures, rows.items.ok.0)
