use Rattle.std.proofs.Common.{◌≡◌, true, false, ltb, ◌&&◌, Bool, refl, ◌∙◌}
use Rattle.mt_bits.specs.Flags.{flag}
use Rattle.mt_hold.proofs.Bits.{held-flags}
use Rattle.mt_hold.proofs.Ends.{chosen-ended}
use Rattle.mt_hold.proofs.Proposing.{flag_is}
use Rattle.mt_hold.proofs.holding.Hold.keeps.Goals as goal

and_true : (b : Bool) → b ≡ (b && true)
and_true true = refl
and_true false = refl

pub returns : goal.returns
returns c =
    let a = c.self.inside in
    let s = flag a.received.items in
    let on : s c.args.rank ≡ true = flag_is a c.args.self.now c.args.rank c.self.view_is c.requires.on_list ∙ c.requires.received in
    rw (
      ← c.self.view_is,
      held-flags a.quota a.list_len a.received.items c.args.rank,
      chosen-ended a.quota a.list_len s a.end c.args.rank c.self.invariant.ends,
      on,
    )
    (and_true (ltb c.args.rank a.end))
