use Rattle.std.proofs.Common.{arith}
use Rattle.mt_statistics.proofs.HeldFacts.{below_most}
use Rattle.mt_statistics.proofs.held.held_counts.Goals as goal

pub counts_below-requires-clause-within : goal.counts_below-requires-clause-within
counts_below-requires-clause-within c i k there =
    let low = below_most c.args.held.now i k there in
    omega (arith, low, c.most_held.ensures)
