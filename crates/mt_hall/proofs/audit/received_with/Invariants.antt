use Rattle.std.proofs.Common.{◌≡◌, ◌+◌, take}
use Rattle.mt_hall.specs.Audits.{all_at}
use Rattle.mt_hall.proofs.audit.received_with.Given as goal

abbrev pub invariant-loop-pass : goal.invariant-loop-pass
invariant-loop-pass g l = l.left + all_at (λ s. s.by_program) (take l.pass-index l.passes) l.program ≡ l.number
