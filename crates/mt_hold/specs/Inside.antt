-- How a holding is kept: its bits, and where what it holds ends.
use Rattle.std.specs.Prelude.{◌≡◌, ◌*◌, ◌<◌, length}
use Rattle.mt_terms.specs.Lists.{count_below}
use Rattle.mt_bits.specs.Flags.{flag, flags}
use Rattle.mt_hold.specs.Holding.{Holding}
use Rattle.mt_hold.specs.Ends.{IsEnd}
use Rattle.mt_hold.specs.declared.holding.Hold.TheInside.{Inside}

abbrev pub holding_of : Inside → Holding
holding_of a = record { quota = a.quota; received = flags a.received.items a.list_len }

-- There is a bit for each rank and one more, the bits are counted, and the first of them end at the end.
pub record IsSound (a : Inside) : Type 0 where
  pub words : a.list_len < 64 * length a.received.items
  pub counted : a.count ≡ count_below (flag a.received.items) a.list_len
  pub ends : IsEnd a.quota a.list_len (flag a.received.items) a.end
