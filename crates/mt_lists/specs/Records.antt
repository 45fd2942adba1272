-- The records of an input. Commas, quotes and line ends are read as the crate csv defines (RFC 4180). What is said
-- here of marks and of padding is this project's own rule.
use Rattle.std.specs.Prelude.{ℕ, ◌-◌, Bool, ◌==◌, List, [], ◌∷◌, ◌++◌, drop, length, map, take, nat_eq, Option, Some, None, if◌then◌else◌}
use Rattle.std.specs.List.{starts_with, suffix_len}
use Rattle.csv.specs.Reading.{records, default_config}

-- the byte order mark, which spreadsheet exports write at the start of a text
abbrev pub mark : List ℕ
mark = 0xEF ∷ 0xBB ∷ 0xBF ∷ []

-- an input without the mark at its start, if it has one
abbrev pub without_mark : List ℕ → List ℕ
without_mark bytes = if starts_with nat_eq bytes mark then drop (length mark) bytes else bytes

-- whether a field has no byte
abbrev pub is_empty_field : List ℕ → Bool
is_empty_field field = length field == 0

-- a record without the empty fields at its end, with which spreadsheet exports pad short rows
abbrev pub without_trailing_empty : List (List ℕ) → List (List ℕ)
without_trailing_empty fields = take (length fields - suffix_len is_empty_field fields) fields

-- the rows of a text: the records that csv reads, with no header row, each without the empty fields at its end
unfoldable pub rows_of : List ℕ → List (List (List ℕ))
rows_of text = map without_trailing_empty (records default_config text)

-- the rows of an input after its byte order mark, if it has one: nothing if it begins with two marks
unfoldable pub records_of : List ℕ → Option (List (List (List ℕ)))
records_of bytes = if starts_with nat_eq bytes (mark ++ mark) then None else Some (rows_of (without_mark bytes))
