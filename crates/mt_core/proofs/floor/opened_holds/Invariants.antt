use Rattle.std.proofs.Common.{◌≡◌, map}
use Rattle.mt_terms.specs.Lists.{below}
use Rattle.mt_core.specs.Floors.{opened_for}
use Rattle.mt_core.proofs.floor.opened_holds.Given as goal

abbrev pub invariant-loop-program : goal.invariant-loop-program
invariant-loop-program l = l.holds.items ≡ map (opened_for l.ranks.market) (below l.program)
