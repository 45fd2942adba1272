-- What a clause reads of a tap: its reader, and the counts of its reads.
use Rattle.std.specs.Prelude.{ℕ, ◌≤◌, List, length, Option}
use Rattle.std.specs.Io.KnownBytes.{Consumes}
use Rattle.mt_lists.specs.declared.tap.Tap.{Tap}

-- the reader under a tap
abbrev pub reader_of : {R : Type 0} → Tap R → R
reader_of tap = tap.reader

-- how many reads a tap made
abbrev pub reads_of : {R : Type 0} → Tap R → ℕ
reads_of tap = tap.reads

-- how many reads of a tap failed
abbrev pub failures_of : {R : Type 0} → Tap R → ℕ
failures_of tap = tap.failures

-- the bytes that the reader under a tap has left, if readers of its type report them, as `remaining` says
abbrev pub bytes_left : {R : Type 0} → (R → Option (List ℕ)) → Tap R → Option (List ℕ)
bytes_left remaining tap = remaining (reader_of tap)

-- known bytes lose at most this many, from the front
pub record LosesAtMost (most : ℕ) (old new : Option (List ℕ)) : Type 0 where
  pub front : List ℕ
  pub lost : Consumes old new front
  pub within : length front ≤ most
