use Rattle.std.proofs.Common.{◌≡◌, sum, take}
use Rattle.mt_floor_tests.proofs.parts.sum_by_program.Given as goal

abbrev pub invariant-loop-program : goal.invariant-loop-program
invariant-loop-program g l = l.all ≡ sum (take l.program l.pass.by_program)
