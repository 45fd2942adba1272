use Rattle.std.proofs.Common.{arith}
use Rattle.std.proofs.lemmas.Grind.{common_steps}
use Rattle.mt_desks.proofs.entries.entry_at.Goals as goal

pub bounds-live-place : goal.bounds-live-place
bounds-live-place c = grind (arith, common_steps)
