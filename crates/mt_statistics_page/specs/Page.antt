-- What a report writes as a page of HTML: the counts of its lines, with a bar beside each. This project's own format.
use Rattle.std.specs.Prelude.{ℕ, ◌==◌, [], ◌++◌, length, codes, if◌then◌else◌}
use Rattle.std.specs.List.{flat_map}
use Rattle.mt_terms.specs.Lists.{below}
use Rattle.mt_terms.specs.Market.{Market, Registered, applicants}
use Rattle.mt_terms.specs.Matching.{Places}
use Rattle.mt_terms.specs.Registration.Ids.{Bytes}
use Rattle.mt_terms.specs.Text.{all_filled, name_of}
use Rattle.mt_statistics.specs.Counts.{choice_counts, choices_from, couples_with, empty_programs, full_programs, is_full, open_posts, pair_counts, pairs_from, partly_filled_programs, standing, unmatched_singles}
use Rattle.mt_statistics_page.specs.Charts.{choice_chart, couple_chart, pair_chart, program_chart}
use Rattle.mt_statistics_page.specs.Pieces.{standing_row, total_row}
use Rattle.mt_statistics_page.specs.declared.markup.TheConstants.{FIRST, FOOT, HEAD, NO_COUPLES, NO_OPEN_POSTS, OPEN_POSTS, TABLE_END, TOTALS}

-- the rows of how many applicants there are, how many of them are placed, and how many singles are not
abbrev pub first_totals : Market → Places → Bytes
first_totals m places =
    total_row (codes "applicants") (applicants m) ++ total_row (codes "applicants with a place") (all_filled m places)
    ++ total_row (codes "singles without a place") (unmatched_singles m places)

-- the rows of how many couples, programs and open posts there are
abbrev pub last_totals : Market → Places → Bytes
last_totals m places =
    total_row (codes "couples") (length m.couples) ++ total_row (codes "programs") (length m.programs)
    ++ total_row (codes "open posts") (open_posts m places)

abbrev pub totals : Market → Places → Bytes
totals m places = TOTALS.now ++ first_totals m places ++ last_totals m places ++ TABLE_END.now

-- how many singles have each choice, and how many no place
abbrev pub choices : Market → Places → Bytes
choices m places = choice_chart (choice_counts m places) (choices_from m places FIRST) (unmatched_singles m places)

-- how many couples have both members, one and neither placed
abbrev pub members : Market → Places → Bytes
members m places = couple_chart (couples_with m places 2) (couples_with m places 1) (couples_with m places 0)

-- how many couples have each pair
abbrev pub pairs : Market → Places → Bytes
pairs m places = pair_chart (pair_counts m places) (pairs_from m places FIRST)

-- the sections of the couples
abbrev pub couple_charts : Market → Places → Bytes
couple_charts m places = members m places ++ pairs m places

abbrev pub couples : Market → Places → Bytes
couples m places = if length m.couples == 0 then NO_COUPLES.now else couple_charts m places

-- how many programs are full, partly filled and empty
abbrev pub programs : Market → Places → Bytes
programs m places = program_chart (full_programs m places) (partly_filled_programs m places) (empty_programs m places)

-- the row of a program
abbrev pub program_row : Registered → Places → ℕ → Bytes
program_row r places p = standing_row (name_of r.names.programs p) (standing r.market places p)

-- the row of a program, if it has an open post
abbrev pub open_row : Registered → Places → ℕ → Bytes
open_row r places p = if is_full r.market places p then [] else program_row r places p

abbrev pub open_rows : Registered → Places → Bytes
open_rows r places = flat_map (open_row r places) (below (length r.market.programs))

-- the programs with open posts
abbrev pub open_table : Registered → Places → Bytes
open_table r places = OPEN_POSTS.now ++ open_rows r places ++ TABLE_END.now

abbrev pub open_programs : Registered → Places → Bytes
open_programs r places =
    if full_programs r.market places == length r.market.programs then NO_OPEN_POSTS.now else open_table r places

-- the charts of the singles, the couples and the programs
abbrev pub charts : Market → Places → Bytes
charts m places = choices m places ++ couples m places ++ programs m places

-- the page of a report: the totals, the charts, and the programs with open posts
abbrev pub report_page : Registered → Places → Bytes
report_page r places = HEAD.now ++ totals r.market places ++ charts r.market places ++ open_programs r places ++ FOOT.now
