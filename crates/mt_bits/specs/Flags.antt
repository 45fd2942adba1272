-- One bit for each rank, in words of 64 bits.
use Rattle.std.specs.Prelude.{ℕ, ◌/◌, ◌%◌, ◌==◌, Bool, List, map, slice_index}
use Rattle.std.specs.Int.{bit_at}
use Rattle.mt_terms.specs.Lists.{Set, below}

-- the ranks whose bit is set
abbrev pub flag : List ℕ → Set
flag words rank = bit_at (slice_index words (rank / 64)) (rank % 64) == 1

-- the bits of the ranks below n
abbrev pub flags : List ℕ → ℕ → List Bool
flags words n = map (flag words) (below n)
