use Rattle.std.proofs.Common.{arith}
use Rattle.mt_faults.specs.Seen.{placed_left}
use Rattle.mt_faults.proofs.PartsFacts.{length-pairs}
use Rattle.mt_faults.proofs.before.entries_of.Goals as goal

pub returns : goal.returns
returns c = omega (arith, c.saturating_add.ensures, c.len.ensures, c.len-2.ensures, length-pairs (placed_left c.args.parts.now.pairs))
