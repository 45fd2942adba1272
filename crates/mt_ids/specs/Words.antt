-- Ids as numbers: a short id is one word, and a longer one of at most fifteen bytes a pair of them.
use Rattle.std.specs.Prelude.{◌≡◌, ℕ, ◌+◌, ◌-◌, ◌*◌, ◌/◌, ◌%◌, ◌^◌, ◌<◌, Bool, ◌&&◌, nat_eq, nat_le, nat_lt, if◌then◌else◌}
use Rattle.std.specs.Prelude.{List, [], ◌∷◌, ◌++◌, length, take, drop, map, get_or, slice_index}
use Rattle.mt_terms.specs.Registration.Ids.{Bytes}

-- whether the numbers of a list are bytes
abbrev pub AreBytes : Bytes → Type 0
AreBytes id = (i : ℕ) → slice_index id i < 256

-- four bytes from a place on as a number, the lowest first
unfoldable pub four_from : Bytes → ℕ → ℕ
four_from id at = slice_index id at + slice_index id (at + 1) * 256 + slice_index id (at + 2) * 65536 + slice_index id (at + 3) * 16777216

-- four bytes from one place on and the last three of an id, as a number
abbrev pub seven_from : Bytes → ℕ → ℕ
seven_from id at = four_from id at + four_from id (length id - 4) / 256 * 2 ^ 32

-- the bytes of an id of at most seven as a number, of which some may be read twice
unfoldable pub bytes_of : Bytes → ℕ
bytes_of id =
    let n = length id in
    if nat_le 4 n then seven_from id 0
    else (if nat_lt 0 n then slice_index id 0 + slice_index id (n / 2) * 256 + slice_index id (n - 1) * 65536 else 0)

-- the word of an id of at most seven bytes: its bytes, and above them its length
abbrev pub word_of : Bytes → ℕ
word_of id = bytes_of id + length id * 2 ^ 56

-- the word of an id, whose numbers are bytes
abbrev pub IsWordOf : Bytes → ℕ → Type 0
IsWordOf id word = (word ≡ word_of id) × AreBytes id

-- what stands for the word of a longer id: its place among the longer ones, below a length that no word has
abbrev pub place_word : ℕ → ℕ
place_word place = place + 8 * 2 ^ 56

-- The bytes of the short id of a word, as many as the length above them says. The first four are the word's lowest. Any
-- others are the last of the three right below the length.
unfoldable pub bytes_in : ℕ → Bytes
bytes_in word =
    let n = word / 2 ^ 56 in
    take n (word % 256 ∷ word / 2 ^ 8 % 256 ∷ word / 2 ^ 16 % 256 ∷ word / 2 ^ 24 % 256 ∷ [])
    ++ drop (7 - n) (word / 2 ^ 32 % 256 ∷ word / 2 ^ 40 % 256 ∷ word / 2 ^ 48 % 256 ∷ [])

-- The id of a word, where these are the longer ids. A word below that of place 0 has its id's bytes. Any other has a
-- place among the longer ids.
unfoldable pub id_in : List Bytes → ℕ → Bytes
id_in longer word = if nat_lt word (place_word 0) then bytes_in word else get_or longer (word - place_word 0) []

-- the ids of words
abbrev pub ids_in : List Bytes → List ℕ → List Bytes
ids_in longer words = map (id_in longer) words

-- the pair of an id of eight to fifteen bytes: its first eight, and its last seven below its length
abbrev pub pair_of : Bytes → ℕ × ℕ
pair_of id = (four_from id 0 + four_from id 4 * 2 ^ 32, seven_from id (length id - 7) + length id * 2 ^ 56)

-- the pair of an id, whose numbers are bytes
abbrev pub IsPairOf : Bytes → ℕ × ℕ → Type 0
IsPairOf id pair = (pair ≡ pair_of id) × AreBytes id

-- whether pairs are the same
abbrev pub pair_eq : ℕ × ℕ → ℕ × ℕ → Bool
pair_eq a b = nat_eq a.0 b.0 && nat_eq a.1 b.1
