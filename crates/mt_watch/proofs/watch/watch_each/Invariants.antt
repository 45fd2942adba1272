use Rattle.std.proofs.Common.{take}
use Rattle.mt_assignment.specs.Watched.{Watches}
use Rattle.mt_watch.proofs.watch.watch_each.Given as goal

abbrev pub invariant-loop-entry : goal.invariant-loop-entry
invariant-loop-entry l = Watches l.initial.table l.table (take l.entry-index l.entries)
