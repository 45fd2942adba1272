-- How many entries of a market are mutual: only such an entry can become a place. (This project's own count.)
use Rattle.std.specs.Prelude.{ℕ, ◌+◌, Bool, true, false, ◌&&◌, List, filter_map, length, Option, if◌then◌else◌}
use Rattle.mt_terms.specs.Lists.{Set, count_below, has, total_below}
use Rattle.mt_terms.specs.Market.{Market, Pair, couple_of, live_entries, program_of}

-- the place of a pair for the first member of a couple, or the second
abbrev pub place_in : Bool → Pair → Option ℕ
place_in is_first pair = if is_first then pair.0 else pair.1

-- the programs to which pairs send that member
abbrev pub sent_by : Bool → List Pair → List ℕ
sent_by is_first pairs = filter_map (place_in is_first) pairs

-- how many programs of a set list an applicant
abbrev pub listed_by : Market → Set → ℕ → ℕ
listed_by m wanted a = count_below (λ p. wanted p && has (program_of m p).ranking a) (length m.programs)

-- how many programs list a member of a couple, of those to which its pairs send that member
abbrev pub mutual_of_couple : Market → ℕ → ℕ
mutual_of_couple m c =
    listed_by m (has (sent_by true (couple_of m c).pairs)) (couple_of m c).first
    + listed_by m (has (sent_by false (couple_of m c).pairs)) (couple_of m c).second

-- How many programs and applicants want each other: a single by its list, and a member of a couple by the couple's pairs.
abbrev pub mutual_entries : Market → ℕ
mutual_entries m = live_entries m + total_below (mutual_of_couple m) (length m.couples)
