use Rattle.std.proofs.Common.{◌≡◌, vec_len}
use Rattle.mt_desks.proofs.opening.open_doors.Given as goal

abbrev pub invariant-loop-program : goal.invariant-loop-program
invariant-loop-program g l = vec_len l.doors ≡ l.program
