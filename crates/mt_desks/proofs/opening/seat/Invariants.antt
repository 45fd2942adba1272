use Rattle.std.proofs.Common.{◌≡◌, ◌+◌, ◌≤◌, length, map, vec_len}
use Rattle.std.specs.Prelude.{vec_capacity}
use Rattle.std.specs.List.{range_with_len}
use Rattle.std.specs.Vec.Iter.{into_iter_len, into_iter_items}
use Rattle.mt_terms.specs.Market.{applicants, live}
use Rattle.mt_desks.proofs.opening.seat.Given as goal

abbrev pub invariant-seats : goal.invariant-seats
invariant-seats g l = record {
  rest : into_iter_items l.shares ≡ map (λ a. length (live g.K.HallName.ranked.market a)) (range_with_len l.applicant (into_iter_len l.shares));
  count : l.applicant + into_iter_len l.shares ≡ applicants g.K.HallName.ranked.market;
  seated : vec_len l.desks ≡ l.applicant;
  room : applicants g.K.HallName.ranked.market ≤ vec_capacity l.desks;
}

abbrev pub decreases-seats : goal.decreases-seats
decreases-seats g l = into_iter_len l.shares
