use Rattle.std.proofs.Common.{arith, ap, length}
use Rattle.mt_watch.proofs.IndexFacts.{counted_within}
use Rattle.mt_watch.proofs.watch.Watch.index_better.Goals as goal

pub index_up_to-requires-clause-end : goal.index_up_to-requires-clause-end
index_up_to-requires-clause-end c =
    omega (arith, c.better-end.ensures, ap length c.pairs.ensures, counted_within c.args.assignment.now c.args.self.now.better.items c.args.couple c.requires.counted c.requires.couple)
