use Rattle.std.proofs.Common.{◌≡◌, ◌∙◌, ◌+◌, take, arith}
use Rattle.mt_terms.specs.Lists.{count}
use Rattle.mt_terms.specs.Market.{program_of}
use Rattle.mt_terms.specs.Matching.{at, send}
use Rattle.mt_terms.proofs.ListFacts.{count-le-length, distinct-take}
use Rattle.mt_stage_tables.proofs.OrderFacts.{same_lt}
use Rattle.mt_round_laws.proofs.SentCounts.{leaves, count_sent}
use Rattle.mt_assignment.proofs.assignment.Assignment.has_post_after.Goals as goal

pub overflow_add-posts : goal.overflow_add-posts
overflow_add-posts c =
    let front = take c.args.rank (program_of c.args.self.now.market c.args.program).ranking in
    omega (
      arith,
      c.quota.type_inv,
      c.movers_ahead-leaving.ensures.leaving,
      count-le-length (leaves c.args.self.now.places c.args.program front) c.args.sent.now,
      c.requires.sent.few,
    )

-- who is at the program once everybody is sent
counted : (c : goal.After-has_fewer_ahead)
    → count (at (send c.args.sent.now c.args.self.now.places) c.args.program) (take c.args.rank (program_of c.args.self.now.market c.args.program).ranking) + c.movers_ahead-leaving.result.0
    ≡ count (at c.args.self.now.places c.args.program) (take c.args.rank (program_of c.args.self.now.market c.args.program).ranking) + c.movers_ahead-leaving.result.1
counted c =
    let ranking = (program_of c.args.self.now.market c.args.program).ranking in
    let assigned = c.has_fewer_ahead.ensures.assigned in
    omega (
      arith,
      c.movers_ahead-leaving.ensures.coming,
      c.movers_ahead-leaving.ensures.leaving,
      count_sent c.args.self.now.places c.args.program (take c.args.rank ranking) c.args.sent.now
          (distinct-take ranking c.args.rank (assigned.well_formed.rankings_distinct c.args.program)) c.requires.sent.distinct
          (λ a on. omega (arith, assigned.are_places.one_each, c.requires.sent.within a on)),
    )

pub returns : goal.returns
returns c =
    c.has_fewer_ahead.ensures.fewer
    ∙ same_lt _ _ _ _ (λ l. omega (arith, l, counted c, c.saturating_sub.ensures, c.quota.ensures)) (λ l. omega (arith, l, counted c, c.saturating_sub.ensures, c.quota.ensures))
