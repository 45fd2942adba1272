-- The charts of a page, over their counts. This project's own format.
use Rattle.std.specs.Prelude.{ℕ, ◌==◌, nat_lt, List, [], ◌++◌, length, max, take, codes, if◌then◌else◌}
use Rattle.mt_terms.specs.Registration.Ids.{Bytes}
use Rattle.mt_statistics_page.specs.Pieces.{bar_row, largest, numbered_rows}
use Rattle.mt_statistics_page.specs.declared.markup.TheConstants.{CHOICES, COUPLES, FIRST, LATER, NO_PAIRS, PAIRS, PROGRAMS, TABLE_END}

-- the largest count of a chart of numbers on lists: the first of them have a bar each, and all later ones share a bar
abbrev pub largest_shown : List ℕ → ℕ → ℕ
largest_shown counts later = max (largest (take FIRST counts)) later

-- the row of the later numbers, if there are any
abbrev pub later_row : List ℕ → ℕ → ℕ → Bytes
later_row counts later most = if nat_lt FIRST (length counts) then bar_row LATER.now later most else []

-- the rows of a chart of numbers on lists
abbrev pub number_rows : List ℕ → ℕ → ℕ → Bytes
number_rows counts later most = numbered_rows (take FIRST counts) most ++ later_row counts later most

-- the chart of choices: how many singles have each, how many a later one, and how many no place
abbrev pub choice_rows : List ℕ → ℕ → ℕ → ℕ → Bytes
choice_rows counts later unmatched most = number_rows counts later most ++ bar_row (codes "no place") unmatched most

abbrev pub choice_most : List ℕ → ℕ → ℕ → ℕ
choice_most counts later unmatched = max (largest_shown counts later) unmatched

abbrev pub choice_chart : List ℕ → ℕ → ℕ → Bytes
choice_chart counts later unmatched =
    CHOICES.now ++ choice_rows counts later unmatched (choice_most counts later unmatched) ++ TABLE_END.now

-- the chart of pairs: how many couples have each, and how many a later one
abbrev pub pair_table : List ℕ → ℕ → Bytes
pair_table counts later = PAIRS.now ++ number_rows counts later (largest_shown counts later) ++ TABLE_END.now

abbrev pub pair_chart : List ℕ → ℕ → Bytes
pair_chart counts later = if length counts == 0 then NO_PAIRS.now else pair_table counts later

-- the largest of three counts
abbrev pub three_largest : ℕ → ℕ → ℕ → ℕ
three_largest first second third = max (max first second) third

-- three rows: a label each, and how many there are of it
abbrev pub three_rows : Bytes → Bytes → Bytes → ℕ → ℕ → ℕ → ℕ → Bytes
three_rows label₁ label₂ label₃ count₁ count₂ count₃ most =
    bar_row label₁ count₁ most ++ bar_row label₂ count₂ most ++ bar_row label₃ count₃ most

-- a chart with a heading and three rows
abbrev pub three_chart : Bytes → Bytes → Bytes → Bytes → ℕ → ℕ → ℕ → Bytes
three_chart heading label₁ label₂ label₃ count₁ count₂ count₃ =
    heading ++ three_rows label₁ label₂ label₃ count₁ count₂ count₃ (three_largest count₁ count₂ count₃) ++ TABLE_END.now

-- the chart of couples: how many have both members placed, one, and neither
abbrev pub couple_chart : ℕ → ℕ → ℕ → Bytes
couple_chart both one neither = three_chart COUPLES.now (codes "both") (codes "one") (codes "neither") both one neither

-- the chart of programs: how many are full, partly filled, and empty
abbrev pub program_chart : ℕ → ℕ → ℕ → Bytes
program_chart full partly empty = three_chart PROGRAMS.now (codes "full") (codes "partly") (codes "empty") full partly empty
