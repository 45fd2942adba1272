use Rattle.std.proofs.Common.{◌≡◌, ◌∙◌, ◌<◌, length, arith}
use Rattle.mt_terms.proofs.ListFacts.{item_below}
use Rattle.mt_ranks.specs.Entries.{rank_among}
use Rattle.mt_ranks.specs.Stamps.{rank_stamped}
use Rattle.mt_ranks.proofs.Lookups.{live_more_some, live_more_none}
use Rattle.mt_ranks.proofs.entries.push_live.Goals as goal
use Rattle.mt_ranks.proofs.entries.push_live.Goals.{in-Some+in_ok-push, in_default}

pub rank_stamped_at-requires-clause-program : goal.rank_stamped_at-requires-clause-program
rank_stamped_at-requires-clause-program c =
    omega (
      arith,
      c.stamp_ranks.ensures.len,
      item_below c.args.list.now c.loop-program.program-index c.program-item.result (length c.args.stamps.now) c.loop-program-test.true c.program-item.is c.requires.list,
    )

pub of-requires-clause-program : goal.of-requires-clause-program
of-requires-clause-program c =
    omega (
      arith,
      c.requires.few,
      item_below c.args.list.now c.loop-program.program-index c.program-item.result (length c.args.stamps.now) c.loop-program-test.true c.program-item.is c.requires.list,
    )

pub loop-program-preserved : goal.loop-program-preserved
loop-program-preserved c =
    let within : c.program-item.result < length c.args.stamps.now =
    item_below c.args.list.now c.loop-program.program-index c.program-item.result (length c.args.stamps.now) c.loop-program-test.true c.program-item.is c.requires.list in
    let noted : rank_stamped c.stamp_ranks.new.stamps c.args.turn c.program-item.result ≡ rank_among c.args.entries.now c.program-item.result = c.stamp_ranks.ensures.noted c.program-item.result within in
    elim c.match-rank_stamped_at.branch [
      | in-Some+in_ok-push w ↦
          rw (w.lists-is, w.in_ok-push.ensures.ok, w.of.ensures)
          (live_more_some c.loop-program.lists c.args.lists.now c.args.entries.now c.args.list.now c.loop-program.program-index c.program-item.result w.in-Some.rank
          c.loop-program.invariant c.loop-program-test.true c.program-item.is (w.in-Some.ensures.rank ∙ noted))
      | in_default w ↦
          rw w.lists-is
          (live_more_none c.loop-program.lists c.args.lists.now c.args.entries.now c.args.list.now c.loop-program.program-index c.program-item.result
          c.loop-program.invariant c.loop-program-test.true c.program-item.is (w.in_default.ensures.rank ∙ noted))
    ]
