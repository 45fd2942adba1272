use Rattle.std.proofs.Common.{◌≡◌, ◌+◌, ◌≤◌, length, vec_len, replicate, All}
use Rattle.std.specs.Prelude.{vec_capacity}
use Rattle.std.specs.Vec.Iter.{into_iter_len, into_iter_items}
use Rattle.mt_terms.specs.Market.{applicants}
use Rattle.mt_desks.specs.Openings.{unused_pass}
use Rattle.mt_desks.specs.Parts.{PassView}
use Rattle.mt_desks.specs.declared.opening.Counts.{Counts}
use Rattle.mt_desks.proofs.opening.seat_passes.Given as goal

abbrev pub invariant-passes : goal.invariant-passes
invariant-passes g l = record {
  shares : All (λ n. n ≡ 0) (into_iter_items l.shares);
  counts : All (λ (c : Counts). (c.by_program.items ≡ replicate (length g.K.HallName.ranked.market.programs) 0) × (c.by_applicant.items ≡ replicate (applicants g.K.HallName.ranked.market) 0)) (into_iter_items l.counts);
  one_each : into_iter_len l.counts ≡ into_iter_len l.shares;
  passes : vec_len l.passes + into_iter_len l.shares ≡ vec_len l.fn.shares;
  room : vec_len l.fn.shares ≤ vec_capacity l.passes;
  unused : All (λ (p : PassView). p ≡ unused_pass g.K.HallName.ranked.market) l.passes.items;
}

abbrev pub decreases-passes : goal.decreases-passes
decreases-passes g l = into_iter_len l.shares
