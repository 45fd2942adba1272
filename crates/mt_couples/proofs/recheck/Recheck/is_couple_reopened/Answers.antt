use Rattle.std.proofs.Common.{arith}
use Rattle.mt_stage_tables.proofs.IndexFacts.{end_within}
use Rattle.mt_watch.proofs.IndexFacts.{counted_within}
use Rattle.mt_couples.proofs.recheck.Recheck.is_couple_reopened.Goals as goal

pub opens_between-requires-clause-end : goal.opens_between-requires-clause-end
opens_between-requires-clause-end c =
    omega (arith, c.better.ensures, end_within c.args.pairs.now.until c.better.result, counted_within c.args.self.now.assignment.now c.args.self.now.watch.now.better.items c.args.pairs.now.couple c.args.self.now.counted c.requires.couple)
