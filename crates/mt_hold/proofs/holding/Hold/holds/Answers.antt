use Rattle.std.proofs.Common.{arith, ap, refl, ◌∙◌, length}
use Rattle.std.proofs.lemmas.Bool.{lt-ltb, le-ltb}
use Rattle.mt_bits.specs.Flags.{flag}
use Rattle.mt_hold.proofs.Bits.{held-flags}
use Rattle.mt_hold.proofs.Ends.{chosen-ended}
use Rattle.mt_hold.proofs.holding.Hold.holds.Goals as goal

pub is_flagged-requires : goal.is_flagged-requires
is_flagged-requires c = omega (arith, c.self.invariant.words, c.self.invariant.ends.within, ap length c.as_slice.ensures.value)

pub returns-then-rank-self : goal.returns-then-rank-self
returns-then-rank-self c =
    let a = c.self.inside in
    let s = flag a.received.items in
    rw (
      ← c.self.view_is,
      held-flags a.quota a.list_len a.received.items c.args.rank,
      chosen-ended a.quota a.list_len s a.end c.args.rank c.self.invariant.ends,
      lt-ltb c.args.rank a.end c.if-rank-self.true,
    )
    (c.is_flagged.ensures ∙ ap (λ words. flag words c.args.rank) c.as_slice.ensures.value)

pub returns-else-rank-self : goal.returns-else-rank-self
returns-else-rank-self c =
    let a = c.self.inside in
    let s = flag a.received.items in
    rw (
      ← c.self.view_is,
      held-flags a.quota a.list_len a.received.items c.args.rank,
      chosen-ended a.quota a.list_len s a.end c.args.rank c.self.invariant.ends,
      le-ltb c.args.rank a.end c.if-rank-self.false,
    )
    refl
