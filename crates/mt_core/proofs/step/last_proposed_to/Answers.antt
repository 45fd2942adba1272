use Rattle.std.proofs.Common.{◌≡◌, ◌==◌, false, arith, ne_eqb}
use Rattle.mt_core.proofs.step.last_proposed_to.Goals as goal

pub returns : goal.returns
returns c =
    let m = c.args.ranks.now.market in
    let place = c.in_ok-place.ensures in
    let some : c.made.result == 0 ≡ false = ne_eqb c.made.result 0 (omega arith) in
    rw (← c.made.ensures m, some, ← place.1) c.entry_at.ensures
