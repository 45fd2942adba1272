-- The pieces of a page: cells, bars and rows. This project's own format.
use Rattle.std.specs.Prelude.{ℕ, ◌+◌, ◌*◌, ◌/◌, List, ◌++◌, length, max, Option, Some, None, slice_index_or, codes, decimal}
use Rattle.std.specs.List.{flat_map}
use Rattle.mt_terms.specs.Lists.{below}
use Rattle.mt_terms.specs.Registration.Ids.{Bytes}
use Rattle.mt_statistics.specs.Counts.{greatest_below}
use Rattle.mt_statistics.specs.declared.counts.Standing.{Standing}
use Rattle.mt_statistics_page.specs.declared.markup.TheConstants.{WIDTH}

-- a cell with a number
abbrev pub cell : ℕ → Bytes
cell number = codes "<td class='n'>" ++ decimal number ++ codes "</td>"

-- a cell with a rank from 0, counted from 1, or with nothing if there is none
abbrev pub rank_cell : Option ℕ → Bytes
rank_cell None = codes "<td class='n'></td>"
rank_cell (Some rank) = cell (rank + 1)

-- How long the bar of a number is: that number's share of the largest one in its chart, in whole units. The bar of the
-- largest has WIDTH units.
abbrev pub bar_length : ℕ → ℕ → ℕ
bar_length count most = count * WIDTH / max most 1

-- the name of a bar for a screen reader, which is its number
abbrev pub bar_name : ℕ → Bytes
bar_name count =
    codes "<svg xmlns='http://www.w3.org/2000/svg' role='img' aria-label='a bar for " ++ decimal count
    ++ codes "' viewBox='0 0 400 14' preserveAspectRatio='none'>"

-- the bar itself
abbrev pub bar_shape : ℕ → ℕ → Bytes
bar_shape count most = codes "<rect width='" ++ decimal (bar_length count most) ++ codes "' height='14'/></svg>"

-- the bar of a number
abbrev pub bar : ℕ → ℕ → Bytes
bar count most = bar_name count ++ bar_shape count most

-- the header of a row
abbrev pub header : Bytes → Bytes
header label = codes "<tr><th scope='row'>" ++ label ++ codes "</th>"

-- a row of a number: what is counted, and how many there are
abbrev pub total_row : Bytes → ℕ → Bytes
total_row label count = header label ++ cell count ++ codes "</tr>\n"

-- the end of a row of a chart: how many there are, and the bar of that number
abbrev pub bar_cells : ℕ → ℕ → Bytes
bar_cells count most = cell count ++ codes "<td class='b'>" ++ bar count most ++ codes "</td></tr>\n"

-- a row of a chart: what is counted, how many there are, and the bar of that number
abbrev pub bar_row : Bytes → ℕ → ℕ → Bytes
bar_row label count most = header label ++ bar_cells count most

-- the largest of some counts, or 0 if there is none
abbrev pub largest : List ℕ → ℕ
largest counts = greatest_below (λ k. slice_index_or counts k 0) (length counts)

abbrev pub numbered_row : List ℕ → ℕ → ℕ → Bytes
numbered_row counts most k = bar_row (decimal (k + 1)) (slice_index_or counts k 0) most

-- a row for each of these counts, which are numbered from 1
abbrev pub numbered_rows : List ℕ → ℕ → Bytes
numbered_rows counts most = flat_map (numbered_row counts most) (below (length counts))

-- the first cells of a program's row: its id, its quota, and how many are placed there
abbrev pub posts_cells : Bytes → ℕ → ℕ → Bytes
posts_cells id quota placed = header id ++ cell quota ++ cell placed

-- the row of a program's id, its quota, how many are placed there, how many it lists, and the rank of the last one in
abbrev pub standing_row : Bytes → Standing → Bytes
standing_row id s = posts_cells id s.quota s.filled ++ cell s.listed ++ rank_cell s.last ++ codes "</tr>\n"
