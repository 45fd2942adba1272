use Rattle.std.proofs.Common.{◌∙◌, ◌<◌, ◌^◌, length, arith}
use Rattle.std.proofs.lemmas.List.{length-set}
use Rattle.std.proofs.lemmas.List.Elements.{All-set}
use Rattle.mt_ranks.specs.declared.stamps.RankStamp.{RankStamp}
use Rattle.mt_ranks.proofs.StampFacts.{stamped_more, stamped_ranks}
use Rattle.mt_ranks.proofs.stamps.stamp_ranks.Goals as goal

pub loop-entry-preserved : goal.loop-entry-preserved
loop-entry-preserved c =
    let entry = c.entry-item.result in
    let stamp : RankStamp = record { turn = c.args.turn; rank = entry.rank } in
    let within : entry.program < length c.loop-entry.stamps =
    rw (c.entry-item.is, c.loop-entry.invariant.len) (c.requires.within c.loop-entry.entry-index entry c.loop-entry-test.true) in
    let short : entry.rank < 2 ^ 17 = rw (← c.rank.ensures.rank) c.rank.ensures.short in
    rw (c.index.ensures, c.program.ensures, c.rank.ensures.rank)
    (record {
      len = length-set c.loop-entry.stamps entry.program stamp ∙ c.loop-entry.invariant.len;
      short = All-set (λ (s : RankStamp). s.rank < 2 ^ 17) c.loop-entry.stamps entry.program stamp short c.loop-entry.invariant.short;
      noted = stamped_more c.loop-entry.stamps c.args.turn c.args.entries.now c.loop-entry.entry-index entry c.loop-entry.invariant.noted c.requires.ascend c.loop-entry-test.true c.entry-item.is within;
    })

pub returns-clause-noted : goal.returns-clause-noted
returns-clause-noted c p w = stamped_ranks c.loop-entry.stamps c.args.turn c.args.entries.now c.loop-entry.entry-index p c.loop-entry.invariant.noted (omega arith) (omega (arith, c.loop-entry.invariant.len))
