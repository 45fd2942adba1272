-- Ranks of several lists.
use Rattle.std.specs.Prelude.{◌≡◌, ℕ, ◌+◌, ◌*◌, ◌≤◌, ◌==◌, Bool, not, ◌&&◌, ◌||◌, List, [], length, slice_index_or}
use Rattle.mt_bits.specs.Flags.{flag, flags}
use Rattle.mt_bits.specs.Members.{is_in}

-- the bits of words
abbrev pub told_by : List ℕ → List Bool
told_by words = flags words (64 * length words)

-- the words of a list, and the bits of a list
abbrev pub words_of : List (List ℕ) → ℕ → List ℕ
words_of rows k = slice_index_or rows k []

abbrev pub told_of : List (List Bool) → ℕ → List Bool
told_of table k = slice_index_or table k []

-- so few words that each bit of a list has a number of 32 bits
abbrev pub AreFew : List (List ℕ) → Type 0
AreFew rows = (k : ℕ) → length (words_of rows k) ≤ 67108864

-- the same bits are set
pub record HaveSameFlags (old new : List (List ℕ)) : Type 0 where
  pub as_many : length new ≡ length old
  pub same : (k r : ℕ) → flag (words_of new k) r ≡ flag (words_of old k) r

-- one list more, and no rank more
pub record AddsList (old new : List (List Bool)) : Type 0 where
  pub as_many : length new ≡ length old + 1
  pub same : (k r : ℕ) → is_in (told_of new k) r ≡ is_in (told_of old k) r

-- This rank is now on this list. All other ranks of all lists are as before.
pub record AddsRank (old new : List (List Bool)) (list rank : ℕ) : Type 0 where
  pub as_many : length new ≡ length old
  pub now : (k r : ℕ) → is_in (told_of new k) r ≡ ((list == k && rank == r) || is_in (told_of old k) r)

-- This rank isn't on this list any more. All other ranks of all lists are as before.
pub record TakesRank (old new : List (List Bool)) (list rank : ℕ) : Type 0 where
  pub as_many : length new ≡ length old
  pub now : (k r : ℕ) → is_in (told_of new k) r ≡ (not (list == k && rank == r) && is_in (told_of old k) r)
