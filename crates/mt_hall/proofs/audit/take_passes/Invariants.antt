use Rattle.std.proofs.Common.{◌≡◌, ◌+◌, vec_len}
use Rattle.std.specs.Vec.Iter.{into_iter_items, into_iter_len}
use Rattle.mt_hall.specs.Audits.{all_proposals}
use Rattle.mt_hall.proofs.audit.take_passes.Given as goal

abbrev pub invariant-passes : goal.invariant-passes
invariant-passes g l = record {
  shares : l.roll.shares + into_iter_len l.passes ≡ l.fn.roll.shares + vec_len l.fn.passes;
  total : l.roll.total ≡ l.fn.roll.total;
  desks : l.roll.desk_credits ≡ l.fn.roll.desk_credits;
  credits : l.roll.pass_credits + all_proposals (into_iter_items l.passes) ≡ l.fn.roll.pass_credits + all_proposals l.fn.passes.items;
}

abbrev pub decreases-passes : goal.decreases-passes
decreases-passes g l = into_iter_len l.passes
