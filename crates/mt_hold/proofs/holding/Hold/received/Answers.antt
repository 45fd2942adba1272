use Rattle.std.proofs.Common.{arith, ap, sym, ◌∙◌, length}
use Rattle.mt_hold.specs.Holding.{ranks}
use Rattle.mt_bits.specs.Flags.{flag}
use Rattle.mt_bits.proofs.Flags.{get_or-flags, length-flags}
use Rattle.mt_hold.proofs.holding.Hold.received.Goals as goal

pub is_flagged-requires : goal.is_flagged-requires
is_flagged-requires c =
    omega (arith, ap ranks c.self.view_is, length-flags c.self.inside.received.items c.self.inside.list_len, c.self.invariant.words, ap length c.as_slice.ensures.value)

pub returns : goal.returns
returns c =
    rw (← c.self.view_is)
    (c.is_flagged.ensures ∙ ap (λ words. flag words c.args.rank) c.as_slice.ensures.value
    ∙ sym (get_or-flags c.self.inside.received.items c.self.inside.list_len c.args.rank
    (omega (arith, ap ranks c.self.view_is, length-flags c.self.inside.received.items c.self.inside.list_len))))
