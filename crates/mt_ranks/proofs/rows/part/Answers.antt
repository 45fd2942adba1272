use Rattle.std.proofs.Common.{sym}
use Rattle.mt_ranks.proofs.RowFacts.{part_at}
use Rattle.mt_ranks.proofs.rows.part.Goals as goal

pub returns : goal.returns
returns c = sym (part_at c.args.starts.now c.args.ends.now c.args.items.now c.args.number c.requires.parts c.requires.within)
