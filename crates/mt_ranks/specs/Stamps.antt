-- Ranks that are noted at programs, each for a turn.
use Rattle.std.specs.Prelude.{ℕ, ◌<◌, ◌^◌, ◌==◌, List, length, Option, Some, None, slice_index_or, if◌then◌else◌}
use Rattle.std.specs.List.{All}
use Rattle.mt_ranks.specs.declared.entries.Live.{Live}
use Rattle.mt_ranks.specs.declared.stamps.RankStamp.{RankStamp}

-- what was noted at a program
abbrev pub stamp_of : List RankStamp → ℕ → RankStamp
stamp_of stamps p = slice_index_or stamps p (record { turn = 0; rank = 0 })

-- the rank that was noted at a program in a turn
abbrev pub rank_stamped : List RankStamp → ℕ → ℕ → Option ℕ
rank_stamped stamps turn p = if (stamp_of stamps p).turn == turn then Some (stamp_of stamps p).rank else None

-- all was noted before a turn
abbrev pub AreBefore : ℕ → List RankStamp → Type 0
AreBefore turn stamps = (p : ℕ) → p < length stamps → (stamp_of stamps p).turn < turn

-- all ranks that are noted have room in a packed entry
abbrev pub AreShort : List RankStamp → Type 0
AreShort stamps = All (λ (s : RankStamp). s.rank < 2 ^ 17) stamps

-- the programs of all entries are below a number
abbrev pub ProgramsWithin : ℕ → List Live → Type 0
ProgramsWithin n entries = All (λ (x : Live). x.program < n) entries
