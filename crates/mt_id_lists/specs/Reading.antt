-- What the reading of lists by numbers gives: each list stands or not, and is read as a list of numbers, or as none if
-- it isn't kept.
use Rattle.std.specs.Prelude.{◌≡◌, Bool, true, false, List, [], ◌∷◌, ◌++◌, flat_map, fold, Option, Some, None, is_some, if◌then◌else◌}
use Rattle.std.specs.List.{AllZip, list_all}
use Rattle.mt_flat.specs.FlatLists.{with_last}
use Rattle.mt_terms.specs.Registration.Ids.{Bytes, stands_once}
use Rattle.mt_id_lists.specs.Numbering.{Numbering, numbers_by}

-- lists with more elements at the end of the last one
abbrev pub with_more : {X : Type 0} → List (List X) → List X → List (List X)
with_more lists xs = fold with_last lists xs

-- A list was read, which stands; or it doesn't stand.
abbrev pub ReadsOne : {L X : Type 0} → (L → Bool) → (L → List (List X)) → L → List (List X) → List (List X) → Bool → Type 0
ReadsOne stands read list old new true = (stands list ≡ true) × (new ≡ old ++ read list)
ReadsOne stands read list old new false = stands list ≡ false

-- All lists were read, which stand; or one doesn't stand.
abbrev pub ReadsAll : {L X : Type 0} → (L → Bool) → (L → List (List X)) → List L → Option (List (List X)) → Type 0
ReadsAll stands read lists (Some new) = (list_all stands lists ≡ true) × (new ≡ flat_map read lists)
ReadsAll stands read lists None = list_all stands lists ≡ false

-- Lists are those of chunks one after another, each of which was read.
pub record AreReadInChunks {L X : Type 0} (stands : L → Bool) (read : L → List (List X)) (lists : List L) (done : List (Option (List (List X)))) : Type 0 where
  pub chunks : List (List L)
  pub whole : flat_map (λ chunk. chunk) chunks ≡ lists
  pub each : AllZip (ReadsAll stands read) chunks done

-- the lists of a chunk that was read
abbrev pub lists_in : {X : Type 0} → Option (List (List X)) → List (List X)
lists_in None = []
lists_in (Some lists) = lists

-- The lists of chunks are joined, each of which was read; or one wasn't.
abbrev pub Joins : {X : Type 0} → List (Option (List (List X))) → Option (List (List X)) → Type 0
Joins chunks (Some new) = (list_all is_some chunks ≡ true) × (new ≡ flat_map lists_in chunks)
Joins chunks None = list_all is_some chunks ≡ false

-- whether a list names none but these ids, and none twice
abbrev pub ids_stand : {X : Type 0} → Numbering X → Bool × List Bytes → Bool
ids_stand n list = stands_once n.ids list.1

-- a list that is kept by the new numbers of its ids
abbrev pub ids_read : {X : Type 0} → Numbering X → Bool × List Bytes → List (List X)
ids_read n list = if list.0 then numbers_by n list.1 ∷ [] else []

-- lists with more elements at the end of the last one, if that is kept
abbrev pub with_kept : {X : Type 0} → Bool → List (List X) → List X → List (List X)
with_kept kept lists xs = if kept then with_more lists xs else lists

-- The new numbers of a list's ids were added, which stand, if it is kept; or they don't stand.
abbrev pub ReadsIds : {X : Type 0} → Numbering X → Bool → List Bytes → List (List X) → List (List X) → Bool → Type 0
ReadsIds n kept list old new true = (stands_once n.ids list ≡ true) × (new ≡ with_kept kept old (numbers_by n list))
ReadsIds n kept list old new false = stands_once n.ids list ≡ false
