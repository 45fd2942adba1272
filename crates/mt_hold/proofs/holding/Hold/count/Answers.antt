use Rattle.std.proofs.Common.{sym, ◌∙◌}
use Rattle.mt_hold.proofs.Bits.{count-flags}
use Rattle.mt_hold.proofs.holding.Hold.count.Goals as goal

pub returns : goal.returns
returns c = rw (← c.self.view_is) (c.self.invariant.counted ∙ sym (count-flags c.self.inside.received.items c.self.inside.list_len))
