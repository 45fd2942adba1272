-- What a report writes: a line for each number of a match. This project's own format.
use Rattle.std.specs.Prelude.{ℕ, ◌+◌, List, [], ◌∷◌, ◌++◌, length, Option, Some, None, slice_index_or, codes, decimal}
use Rattle.std.specs.List.{flat_map}
use Rattle.mt_terms.specs.Lists.{below}
use Rattle.mt_terms.specs.Market.{Market, Registered}
use Rattle.mt_terms.specs.Matching.{Places}
use Rattle.mt_terms.specs.Registration.Ids.{Bytes}
use Rattle.mt_terms.specs.Text.{all_filled, line, name_of}
use Rattle.mt_statistics.specs.Counts.{choice_counts, couples_with, empty_programs, full_programs, open_posts, pair_counts, partly_filled_programs, standing, unmatched_singles}
use Rattle.mt_statistics.specs.declared.counts.Standing.{Standing}

-- a line for each of these counts, which a line numbers from 1
abbrev pub counted_line : Bytes → List ℕ → ℕ → Bytes
counted_line word counts k = line (word ∷ decimal (k + 1) ∷ decimal (slice_index_or counts k 0) ∷ [])

abbrev pub counted_lines : Bytes → List ℕ → Bytes
counted_lines word counts = flat_map (counted_line word counts) (below (length counts))

-- the lines of the singles: how many have each choice, and how many no place
abbrev pub singles_lines : Market → Places → Bytes
singles_lines m places =
    counted_lines (codes "choice") (choice_counts m places) ++ line (codes "unmatched" ∷ decimal (unmatched_singles m places) ∷ [])

-- the line of how many couples have both members placed, one and neither
abbrev pub members_line : Market → Places → Bytes
members_line m places =
    line (codes "couples" ∷ decimal (couples_with m places 2) ∷ decimal (couples_with m places 1) ∷ decimal (couples_with m places 0) ∷ [])

-- the lines of the couples: how many have both members, one and none placed, and how many have each pair
abbrev pub couples_lines : Market → Places → Bytes
couples_lines m places = members_line m places ++ counted_lines (codes "pair") (pair_counts m places)

-- the line of how many programs are full, partly filled and empty, and that of the filled and the open posts
abbrev pub posts_lines : Market → Places → Bytes
posts_lines m places =
    line (codes "programs" ∷ decimal (full_programs m places) ∷ decimal (partly_filled_programs m places) ∷ decimal (empty_programs m places) ∷ [])
    ++ line (codes "posts" ∷ decimal (all_filled m places) ∷ decimal (open_posts m places) ∷ [])

-- a rank from 0, counted from 1, and nothing if there is none
abbrev pub rank_text : Option ℕ → Bytes
rank_text None = []
rank_text (Some rank) = decimal (rank + 1)

-- the line of a program's id, its quota, how many are placed there, how many it lists, and the rank of the last one in
abbrev pub standing_line : Bytes → Standing → Bytes
standing_line id s = line (codes "program" ∷ id ∷ decimal s.quota ∷ decimal s.filled ∷ decimal s.listed ∷ rank_text s.last ∷ [])

abbrev pub program_line : Registered → Places → ℕ → Bytes
program_line r places p = standing_line (name_of r.names.programs p) (standing r.market places p)

abbrev pub program_lines : Registered → Places → Bytes
program_lines r places = flat_map (program_line r places) (below (length r.market.programs))

-- the text of a report: the lines of the singles, the couples and the posts, and a line for each program
abbrev pub report_text : Registered → Places → Bytes
report_text r places =
    singles_lines r.market places ++ couples_lines r.market places ++ posts_lines r.market places ++ program_lines r places
