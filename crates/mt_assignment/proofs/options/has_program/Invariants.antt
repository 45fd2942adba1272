use Rattle.std.proofs.Common.{◌≡◌, drop}
use Rattle.mt_terms.specs.Lists.{has}
use Rattle.mt_assignment.proofs.options.has_program.Given as goal

abbrev pub invariant-loop-other : goal.invariant-loop-other
invariant-loop-other l = has (drop l.other-index l.programs) l.program ≡ has l.programs l.program
