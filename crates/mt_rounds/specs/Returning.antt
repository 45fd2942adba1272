-- What is kept of the rounds of a couple's entry.
use Rattle.std.specs.Prelude.{Option}
use Rattle.std.specs.Option.{option_map}
use Rattle.mt_terms.specs.Rounds.{Work}
use Rattle.mt_rounds.specs.declared.returning.Kept.{Kept}
use Rattle.mt_rounds.specs.declared.returning.Returning.{Returning}

-- the state that a copy is of
abbrev pub kept_state : Kept → Work
kept_state k = record { places = k.places.items; waiting = k.waiting.items }

-- the state that was kept, if one was
abbrev pub state_in : Returning → Option Work
state_in r = option_map kept_state r.kept
