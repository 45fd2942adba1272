use Rattle.std.proofs.Common.{◌≡◌, vec_len}
use Rattle.mt_crew.proofs.seats.empty_seats.Given as goal

abbrev pub invariant-loop-number : goal.invariant-loop-number
invariant-loop-number l = vec_len l.seats ≡ l.number
