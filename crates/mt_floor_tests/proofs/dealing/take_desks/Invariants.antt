use Rattle.std.proofs.Common.{◌≡◌, ◌+◌, vec_len}
use Rattle.std.specs.Vec.Iter.{into_iter_len}
use Rattle.mt_floor_tests.proofs.dealing.take_desks.Given as goal

abbrev pub invariant-desks : goal.invariant-desks
invariant-desks g l = l.roll.shares + into_iter_len l.desks ≡ l.fn.roll.shares + vec_len l.fn.desks

abbrev pub decreases-desks : goal.decreases-desks
decreases-desks g l = into_iter_len l.desks
