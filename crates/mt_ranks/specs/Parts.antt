-- Rank tables in parts, each of a block of applicants.
use Rattle.std.specs.Prelude.{◌≡◌, ℕ, ◌+◌, ◌-◌, ◌*◌, ◌<◌, ◌≤◌, ◌^◌, nat_lt, List, [], map, length, min, slice_index_or, if◌then◌else◌}
use Rattle.mt_terms.specs.Lists.{below}
use Rattle.mt_terms.specs.Market.{Market, applicants}
use Rattle.mt_ranks.specs.Entries.{own_entries}
use Rattle.mt_ranks.specs.Rows.{row_of, empty_rows, listed_rows}
use Rattle.mt_ranks.specs.declared.blocks.TheConstants.{BLOCKS}
use Rattle.mt_ranks.specs.declared.entries.Live.{Live}
use Rattle.mt_ranks.specs.declared.tables.Part.{Part}

-- Blocks follow one another, each of `size` applicants but for the last ones: where the block of a number begins, and
-- how many applicants it has.
abbrev pub block_first : ℕ → ℕ → ℕ → ℕ
block_first size number count = min (number * size) count

abbrev pub block_size : ℕ → ℕ → ℕ → ℕ
block_size size number count = min size (count - block_first size number count)

-- The part of a market's tables with this number.
pub record IsPart (m : Market) (size number : ℕ) (part : Part) : Type 0 where
  pub rows : part.rows.lists ≡ map (λ k. own_entries m (block_first size number (applicants m) + k)) (below (block_size size number (applicants m)))
  pub lists : part.lists ≡ listed_rows m (block_first size number (applicants m)) (block_size size number (applicants m)) part.rows

-- the part with a number, if there is one
abbrev pub part_of : List Part → ℕ → Part
part_of parts number = slice_index_or parts number (record { rows = empty_rows []; lists = [] })

-- the first parts of a market's tables, as many as `count`
pub record AreFirstParts (m : Market) (size count : ℕ) (parts : List Part) : Type 0 where
  pub len : length parts ≡ count
  pub each : (number : ℕ) → number < count → IsPart m size number (part_of parts number)

-- all parts of a market's tables
abbrev pub AreParts : Market → ℕ → List Part → Type 0
AreParts m size parts = AreFirstParts m size BLOCKS parts

-- Below, an applicant is looked up in its block: the number of the block, and the applicant's place there.
abbrev pub block_of : ℕ → ℕ → ℕ
block_of size a = if nat_lt a size then 0 else (if nat_lt a (size * 2) then 1 else (if nat_lt a (size * 3) then 2 else 3))

abbrev pub place_of : ℕ → ℕ → ℕ
place_of size a = a - block_of size a * size

abbrev pub live_among : ℕ → List Part → ℕ → List Live
live_among size parts a = slice_index_or (part_of parts (block_of size a)).lists (place_of size a) []

abbrev pub row_among : ℕ → List Part → ℕ → List Live
row_among size parts a = row_of (part_of parts (block_of size a)).rows (place_of size a)

-- the parts have the applicant
pub record HaveApplicant (size : ℕ) (parts : List Part) (a : ℕ) : Type 0 where
  pub small : size < 2 ^ 32
  pub part : block_of size a < length parts
  pub within : block_of size a * size ≤ a
  pub list : place_of size a < length (part_of parts (block_of size a)).lists
  pub row : place_of size a < length (part_of parts (block_of size a)).rows.lists
