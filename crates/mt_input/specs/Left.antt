-- The bytes that a reader had left, and what it does to a reader that a whole file is read.
use Rattle.std.specs.Prelude.{◌≡◌, ℕ, ◌+◌, ◌≤◌, List, length, Option, IfSome}
use Rattle.mt_lists.specs.Tap.{LosesAtMost, bytes_left, failures_of, reads_of}
use Rattle.mt_lists.specs.declared.tap.Tap.{Tap}
use Rattle.mt_input.specs.Files.{most_bytes}

-- Something is so of the bytes that a reader had left. If the reader doesn't tell them, it is so of some bytes.
pub record OfLeft (left : Option (List ℕ)) (IsSo : List ℕ → Type 0) : Type 0 where
  pub bytes : List ℕ
  pub are_left : IfSome left (λ xs. bytes ≡ xs)
  pub is_so : IsSo bytes

-- these are the bytes that a reader had left, and no more than a file may have
pub record AreRead (left : Option (List ℕ)) (bytes : List ℕ) : Type 0 where
  pub few : length bytes ≤ most_bytes
  pub are_left : IfSome left (λ xs. bytes ≡ xs)

-- a count goes up by no more than this
abbrev pub RisesAtMost : ℕ → ℕ → ℕ → Type 0
RisesAtMost most old new = (old ≤ new) × (new ≤ old + most)

-- A file was read, or a part of it. The reader lost as many bytes as a file may have and one more, at the most, and was
-- asked no oftener. One read failed at the most.
pub record TakesFile {R : Type 0} (remaining : R → Option (List ℕ)) (old new : Tap R) : Type 0 where
  pub taken : LosesAtMost (most_bytes + 1) (bytes_left remaining old) (bytes_left remaining new)
  pub reads : RisesAtMost (most_bytes + 1) (reads_of old) (reads_of new)
  pub failures : RisesAtMost 1 (failures_of old) (failures_of new)
