use Rattle.std.proofs.Common.{sym}
use Rattle.mt_flat.proofs.FlatListsFacts.{piece_at}
use Rattle.mt_flat.proofs.flat_lists.piece.Goals as goal

pub returns : goal.returns
returns g c = rw c.bounds-start.ensures.start (rw c.bounds-start.ensures.end (sym (piece_at 0 c.args.ends.now c.args.items.now c.args.number c.requires.within)))
