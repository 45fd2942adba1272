-- A program and a rank in one number.
use Rattle.std.specs.Prelude.{ℕ, ◌+◌, ◌*◌, ◌/◌, ◌%◌}
use Rattle.mt_ranks.specs.declared.entries.Live.{Live}
use Rattle.mt_ranks.specs.declared.packed.TheConstants.{RANKS}

-- the entry that a number is: the program above, and the rank below
abbrev pub live_in : ℕ → Live
live_in word = record { program = word / RANKS; rank = word % RANKS }

-- the number of an entry
abbrev pub word_of : Live → ℕ
word_of entry = entry.program * RANKS + entry.rank
