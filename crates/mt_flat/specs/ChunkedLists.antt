-- Lists in chunks, each known by its chunk and by its number there.
use Rattle.std.specs.Prelude.{ℕ, zero, suc, ◌<◌, List, [], ◌∷◌, ◌++◌, length, slice_index_or}
use Rattle.mt_flat.specs.declared.chunked_lists.Place.{Place}

-- the list at a place
abbrev pub list_at : {X : Type 0} → List (List (List X)) → Place → List X
list_at chunks place = slice_index_or (slice_index_or chunks place.chunk []) place.number []

-- A list is at a place.
abbrev pub IsWithin : {X : Type 0} → List (List (List X)) → Place → Type 0
IsWithin chunks place = (place.chunk < length chunks) × (place.number < length (slice_index_or chunks place.chunk []))

-- the places of the first lists of a chunk, as many as this
abbrev pub chunk_places : ℕ → ℕ → List Place
chunk_places chunk zero = []
chunk_places chunk (suc count) = chunk_places chunk count ++ record { chunk = chunk; number = count } ∷ []
