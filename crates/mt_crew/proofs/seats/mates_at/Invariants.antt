use Rattle.std.proofs.Common.{◌≡◌, vec_len}
use Rattle.mt_crew.proofs.seats.mates_at.Given as goal

abbrev pub invariant-loop-seat : goal.invariant-loop-seat
invariant-loop-seat l = vec_len l.mates ≡ l.seat-index
