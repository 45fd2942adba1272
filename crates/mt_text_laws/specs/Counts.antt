-- The counts that a published text has, with the numbers of their records.
use Rattle.std.specs.Prelude.{ℕ, zero, suc, ◌+◌, ◌-◌, List, [], ◌∷◌, ◌++◌, length}
use Rattle.mt_terms.specs.Market.{Market, applicants, program_of}
use Rattle.mt_terms.specs.Matching.{Places, filled}
use Rattle.mt_terms.specs.Text.{all_filled, positions, unmatched}
use Rattle.mt_match_file.specs.declared.submitted_match.Count.TheVariants as count
use Rattle.mt_match_file.specs.declared.submitted_match.Counted.{Counted}

-- the counts that rows from the i-th on say, of this number of programs from p on
abbrev pub counts_from : Market → Places → ℕ → ℕ → ℕ → List Counted
counts_from m places i p zero = []
counts_from m places i p (suc k) =
    record { row = i; count = count.Program p (program_of m p).quota (filled places p) } ∷ counts_from m places (i + 1) (p + 1) k

-- the totals, as the i-th row says them
abbrev pub totals_count : Market → Places → ℕ → Counted
totals_count m places i = record { row = i; count = count.Totals (applicants m) (unmatched places) (positions m) (positions m - all_filled m places) }

-- the counts of a published text: of each program, after the head and the applicants, and then the totals
abbrev pub published_counts : Market → Places → List Counted
published_counts m places =
    counts_from m places (2 + applicants m) 0 (length m.programs) ++ totals_count m places (2 + applicants m + length m.programs) ∷ []

-- the counts of a text that sets this number of couples aside, whose lines are before the totals
abbrev pub counts_aside : Market → Places → ℕ → List Counted
counts_aside m places aside =
    counts_from m places (2 + applicants m) 0 (length m.programs) ++ totals_count m places (2 + applicants m + length m.programs + aside) ∷ []
