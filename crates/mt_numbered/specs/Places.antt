-- Lists of ids by the places of these.
use Rattle.std.specs.Prelude.{◌≡◌, ℕ, Bool, true, false, List, map, Option, Some, None, Vec}
use Rattle.std.specs.Global.{Global}
use Rattle.std.specs.List.{list_all}
use Rattle.mt_terms.specs.Registration.Ids.{Bytes, has_id, number_of}
use Rattle.mt_id_lists.specs.Numbering.{Numbering}
use Rattle.mt_id_lists.specs.Reading.{ReadsIds}

-- A list names none but these ids, and these are the places of those that it names.
abbrev pub ArePlaces : List Bytes → List Bytes → List ℕ → Type 0
ArePlaces ids list places = (list_all (has_id ids) list ≡ true) × (places ≡ map (number_of ids) list)

-- The places of a list's ids were found; or the list names an id that isn't one of these.
abbrev pub FindsPlaces : List Bytes → List Bytes → Option (Vec ℕ Global) → Type 0
FindsPlaces ids list (Some places) = ArePlaces ids list places.items
FindsPlaces ids list None = list_all (has_id ids) list ≡ false

-- A list of which these are the places was read.
abbrev pub ReadsPlaces : {X : Type 0} → Numbering X → Bool → List ℕ → List (List X) → List (List X) → Bool → Type 0
ReadsPlaces n kept places old new found = (list : List Bytes) → ArePlaces n.ids list places → ReadsIds n kept list old new found
