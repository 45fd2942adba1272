-- Programs of live lists, with the applicant's rank there.
use Rattle.std.specs.Prelude.{ℕ, List, Option, None, slice_get, if◌then◌else◌}
use Rattle.std.specs.Option.{option_map}
use Rattle.mt_terms.specs.Market.{Market, live}
use Rattle.mt_ranks.specs.Ranked.{ranked_entry}
use Rattle.mt_ranks.specs.declared.entries.Live.{Live}
use Rattle.mt_core.specs.Floors.{Tables, floor_of}

-- a program, if there is one, with the applicant's rank there
abbrev pub entry_of : Market → ℕ → Option ℕ → Option Live
entry_of m a program = option_map (ranked_entry m a) program

-- the entry at a place of an applicant's live list
abbrev pub live_entry : Market → ℕ → ℕ → Option Live
live_entry m a place = entry_of m a (slice_get (live m a) place)

-- the entry of a live list that an applicant would propose to next: none while it stands
abbrev pub next_in : Market → Tables → List Live → ℕ → Option Live
next_in m t list a = if (floor_of m t).standing a then None else slice_get list ((floor_of m t).made a)
