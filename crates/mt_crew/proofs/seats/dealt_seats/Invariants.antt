use Rattle.std.proofs.Common.{◌≡◌, ◌<◌, vec_len}
use Rattle.mt_crew.proofs.seats.dealt_seats.Given as goal

abbrev pub invariant-loop-applicant : goal.invariant-loop-applicant
invariant-loop-applicant l = record { one_each : vec_len l.seats ≡ l.workers; next : l.next < l.workers }
