-- Pieces of lists of ids.
use Rattle.std.specs.Prelude.{ℕ, Bool, List, [], ◌∷◌, map, take}
use Rattle.std.specs.List.{list_all}
use Rattle.mt_lists.specs.Rows.{fields_left}
use Rattle.mt_terms.specs.Registration.Ids.{Bytes, has_id, number_of}
use Rattle.mt_numbered.specs.declared.pieces.Piece.{Piece}

-- the ids of a piece: the first fields of those that are left, as many as it has
abbrev pub piece_ids : Piece → List Bytes
piece_ids piece = take piece.count (fields_left piece.fields)

-- whether a piece names none but these ids
abbrev pub piece_stands : List Bytes → Piece → Bool
piece_stands ids piece = list_all (has_id ids) (piece_ids piece)

-- the ids of a piece by their places
abbrev pub piece_read : List Bytes → Piece → List (List ℕ)
piece_read ids piece = map (number_of ids) (piece_ids piece) ∷ []
