-- Sets of ids, and what finds them.
use Rattle.std.specs.Prelude.{ℕ, ◌≡◌, ◌<◌, ◌≤◌, false, List, [], ◌∷◌, ◌++◌, Option, length, nat_eq, position, bytes_eq, if◌then◌else◌}
use Rattle.std.specs.List.{list_any}
use Rattle.mt_terms.specs.Registration.Ids.{Bytes, has_id}
use Rattle.mt_ids.specs.Words.{AreBytes, word_of, place_word, pair_of}
use Rattle.mt_ids.specs.declared.seed.Seed.{Seed}

-- ids in the order in which they came, and the seed of the tables that find them
pub record SeededIds : Type 0 where
  pub ids : List Bytes
  pub seed : Seed

-- Words find the short ids, pairs of words those of eight to fifteen bytes, and their bytes the long ones. No place past
-- the longer ids is among the words.
pub record FindsIds (ids longer : List Bytes) (words : List ℕ) (by_pair : ℕ × ℕ → Option ℕ) (by_bytes : Bytes → Option ℕ) : Type 0 where
  pub unused : (place : ℕ) → length longer ≤ place → list_any (nat_eq (place_word place)) words ≡ false
  pub short : (id : Bytes) → AreBytes id → length id ≤ 7 → position (nat_eq (word_of id)) words ≡ position (bytes_eq id) ids
  pub middle : (id : Bytes) → AreBytes id → 7 < length id → length id ≤ 15 → by_pair (pair_of id) ≡ position (bytes_eq id) ids
  pub long : (id : Bytes) → 15 < length id → by_bytes id ≡ position (bytes_eq id) ids

-- ids with one more, if it is none of them
abbrev pub with_id : List Bytes → Bytes → List Bytes
with_id ids id = if has_id ids id then ids else ids ++ id ∷ []
