use Rattle.std.proofs.Common.{rules, length}
use Rattle.mt_flat.proofs.FlatListsFacts.{start_before_end}
use Rattle.mt_flat.proofs.flat_lists.bounds.Goals as goal
use Rattle.mt_flat.proofs.flat_lists.bounds.Goals.{then-number-eq0, else-number-eq0}

pub returns-clause-order : goal.returns-clause-order
returns-clause-order g c =
    let b = start_before_end 0 c.args.ends.now (length c.args.items.now) c.args.number c.requires.in_order c.requires.within in
    elim c.if-number-eq0.branch [ then-number-eq0 w ↦ search (rules, b) | else-number-eq0 w ↦ search (rules, b) ]
