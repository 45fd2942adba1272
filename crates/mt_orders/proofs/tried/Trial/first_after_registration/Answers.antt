use Rattle.std.proofs.Common.{◌∙◌, arith, sym}
use Rattle.mt_orders.proofs.TriedFacts.{found_here, none_at_all, not_here}
use Rattle.mt_orders.proofs.tried.Trial.first_after_registration.Goals as goal

pub batches-preserved : goal.batches-preserved
batches-preserved g c =
    let t = c.args.self.now in
    let so_far = c.batches.invariant in
    record {
      low = omega arith;
      high = omega arith;
      none = not_here t.roster.now.market t.singles.now.places t.budget c.batches.from c.min-count.result c.in_ok-found.found so_far.low so_far.none
          (sym c.is_some.ensures ∙ c.if-is_some.false) c.in_ok-found.ensures;
    }

pub returns-then-is_some : goal.returns-then-is_some
returns-then-is_some g c =
    let t = c.args.self.now in
    let so_far = c.batches.invariant in
    found_here t.roster.now.market t.singles.now.places t.budget c.batches.from c.min-count.result c.args.orders c.in_ok-found.found so_far.low (omega arith) so_far.none
    (sym c.is_some.ensures ∙ c.if-is_some.true) c.in_ok-found.ensures

pub returns : goal.returns
returns g c =
    let t = c.args.self.now in
    none_at_all t.roster.now.market t.singles.now.places t.budget c.batches.from c.args.orders c.batches.invariant.high (omega arith) c.batches.invariant.none
