use Rattle.std.proofs.Common.{◌≡◌, ◌+◌, vec_len}
use Rattle.std.specs.Vec.Iter.{into_iter_len}
use Rattle.mt_floor_tests.proofs.dealing.take_passes.Given as goal

abbrev pub invariant-passes : goal.invariant-passes
invariant-passes g l = l.roll.shares + into_iter_len l.passes ≡ l.fn.roll.shares + vec_len l.fn.passes

abbrev pub decreases-passes : goal.decreases-passes
decreases-passes g l = into_iter_len l.passes
