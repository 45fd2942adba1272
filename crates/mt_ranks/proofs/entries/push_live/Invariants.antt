use Rattle.mt_ranks.proofs.Lookups.{AreLive}
use Rattle.mt_ranks.proofs.entries.push_live.Given as goal

abbrev pub invariant-loop-program : goal.invariant-loop-program
invariant-loop-program l = AreLive l.lists l.fn.lists l.entries l.list l.program-index
