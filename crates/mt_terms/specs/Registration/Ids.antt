-- The fields of a record as ids and quotas, and lists of ids. Ids are compared byte by byte.
-- (This project's own format.)
use Rattle.std.specs.Prelude.{ℕ, Bool, true, not, ◌||◌, ◌&&◌, nat_lt, nat_le, List, [], ◌∷◌, map, filter, length, Option, Some, None, codes, bytes_eq, if◌then◌else◌}
use Rattle.std.specs.List.{list_any, list_all, position_or_len}
use Rattle.std.specs.Char.{is_ascii_alphanumeric, is_ascii_digit}
use Rattle.std.specs.Str.Parse.{digits_value}
use Rattle.mt_terms.specs.Lists.{has}

-- a field, or an id: a list of bytes
abbrev pub Bytes : Type 0
Bytes = List ℕ

-- whether a field is the single `-`, which says that a member of a couple has no place in a pair
abbrev pub is_dash : Bytes → Bool
is_dash field = bytes_eq field (codes "-")

-- whether a byte may be in an id: the ASCII letters and digits, and `.`, `_`, `:` and `-`
abbrev pub is_id_byte : ℕ → Bool
is_id_byte byte = is_ascii_alphanumeric byte || has (codes "._:-") byte

-- whether a field is an id of at most this many bytes: one byte or more of those, and not the single `-`
abbrev pub is_id : ℕ → Bytes → Bool
is_id most field = nat_lt 0 (length field) && nat_le (length field) most && list_all is_id_byte field && not (is_dash field)

-- the quota that a field writes: one to four digits
abbrev pub quota_of : Bytes → Option ℕ
quota_of field =
    if nat_lt 0 (length field) && nat_le (length field) 4 && list_all is_ascii_digit field then Some (digits_value 10 field) else None

-- whether an id is one of these
abbrev pub has_id : List Bytes → Bytes → Bool
has_id ids id = list_any (bytes_eq id) ids

-- the number of an id among these: its place, from 0
abbrev pub number_of : List Bytes → Bytes → ℕ
number_of ids id = position_or_len (bytes_eq id) ids

-- a list by numbers: an id that is not among these leaves it
abbrev pub numbers_of : List Bytes → List Bytes → List ℕ
numbers_of ids list = map (number_of ids) (filter (has_id ids) list)

-- whether no element of a list is equal to a later one
abbrev pub all_differ : {X : Type 0} → (X → X → Bool) → List X → Bool
all_differ same [] = true
all_differ same (x ∷ xs) = not (list_any (same x) xs) && all_differ same xs

-- whether a list names none but these ids, and none twice
abbrev pub stands_once : List Bytes → List Bytes → Bool
stands_once ids list = list_all (has_id ids) list && all_differ bytes_eq list
