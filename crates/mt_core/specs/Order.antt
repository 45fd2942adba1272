-- That the order of the events doesn't matter (McVitie and Wilson 1971).
use Rattle.std.specs.Prelude.{◌≡◌, List, IsTrue}
use Rattle.mt_terms.specs.Market.{Market}
use Rattle.mt_terms.specs.Floor.{opening, after_all, is_quiet, EndAlike}
use Rattle.mt_terms.specs.declared.events.Event.{Event}
use Rattle.mt_ranks.specs.Ranked.{Ranked, IsRanked}
use Rattle.mt_core.specs.Floors.{Tables, floor_of}

-- Tables are at the end of a list of events. The events lead from the opening floor to the one that the tables show,
-- and no event is due there.
pub record IsEndOf (m : Market) (events : List Event) (t : Tables) : Type 0 where
  pub floor : floor_of m t ≡ after_all m opening events
  pub quiet : IsTrue (is_quiet m (floor_of m t))

-- any two lists of events from the opening floor end alike if no event is due at their ends
abbrev pub OrderFree : Type 0
OrderFree =
    (r : Ranked) → IsRanked r → (es fs : List Event) (s t : Tables)
    → IsEndOf r.market es s → IsEndOf r.market fs t
    → EndAlike r.market (floor_of r.market s) (floor_of r.market t)
