use Rattle.std.proofs.Common.{arith}
use Rattle.mt_orders.proofs.FewestFacts.{fewest_after}
use Rattle.mt_orders.proofs.fewest.AsideTrial.fewest.Goals as goal

pub batches-preserved : goal.batches-preserved
batches-preserved g c =
    let t = c.args.self.now in
    let so_far = c.batches.invariant in
    record {
      low = omega arith;
      high = omega arith;
      fewest = fewest_after t.roster.now.market t.singles.now.places t.budget c.batches.from c.min-count.result c.batches.fewest c.fewest_of-fewest.result c.in_ok-others.others.items
          (omega arith) so_far.fewest c.in_ok-others.ensures c.fewest_of-fewest.ensures;
    }
