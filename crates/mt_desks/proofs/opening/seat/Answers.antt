use Rattle.std.proofs.Common.{rules, ◌≡◌, ◌+◌, length, ap, sym, ◌∙◌, arith}
use Rattle.std.specs.Vec.Iter.{into_iter_items, into_iter_len}
use Rattle.mt_terms.specs.Market.{applicants, live}
use Rattle.mt_terms.proofs.BelowFacts.{length-map_below}
use Rattle.mt_desks.proofs.Openings.{desk_opens, live_counts, next_credits}
use Rattle.mt_desks.proofs.opening.seat.Goals as goal

pub seats-init : goal.seats-init
seats-init g c =
    let m = g.K.HallName.ranked.market in
    let all : into_iter_len c.into_iter-shares.result ≡ applicants m =
    c.into_iter-shares.ensures.len ∙ search rules ∙ ap length c.requires.shares ∙ length-map_below (λ a. length (live m a)) (applicants m) in
    record {
      rest = c.into_iter-shares.ensures.rest ∙ c.requires.shares ∙ ap (live_counts m) (sym all);
      count = omega (arith, all);
      seated = c.requires.room.0;
      room = c.requires.room.1;
    }

pub invariant_of-new : goal.invariant_of-new
invariant_of-new g c =
    let m = g.K.HallName.ranked.market in
    let more : into_iter_len c.seats.shares ≡ into_iter_len c.next.new.self + 1 = search rules in
    desk_opens m c.seats.applicant c.in-Some.credits
    (next_credits m c.seats.applicant _ _ c.in-Some.credits (into_iter_items c.next.new.self) (into_iter_items c.seats.shares) c.in-Some.ensures.items c.seats.invariant.rest more).0

pub seats-preserved : goal.seats-preserved
seats-preserved g c =
    let m = g.K.HallName.ranked.market in
    let more : into_iter_len c.seats.shares ≡ into_iter_len c.next.new.self + 1 = search rules in
    record {
      rest = (next_credits m c.seats.applicant _ _ c.in-Some.credits (into_iter_items c.next.new.self) (into_iter_items c.seats.shares) c.in-Some.ensures.items c.seats.invariant.rest more).1;
      count = search rules;
      seated = search rules;
      room = search rules;
    }
