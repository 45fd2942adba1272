-- The programs that list an applicant, with the applicant's rank on each list.
use Rattle.std.specs.Prelude.{◌≡◌, ℕ, ◌+◌, ◌≤◌, ◌<◌, ◌^◌, ◌==◌, List, [], ◌∷◌, ◌++◌, length, map, Option, Some, None, slice_index, if◌then◌else◌}
use Rattle.std.specs.List.{filter_map}
use Rattle.std.specs.Option.{option_map}
use Rattle.mt_terms.specs.Lists.{below, count}
use Rattle.mt_terms.specs.Market.{Market, Program, applicants}
use Rattle.mt_ranks.specs.declared.entries.Live.{Live}

-- the places of an applicant on the rest of a program's list, which begins at this rank
abbrev pub entries_in : ℕ → ℕ → List ℕ → ℕ → List Live
entries_in p rank [] a = []
entries_in p rank (x ∷ xs) a =
    let rest = entries_in p (rank + 1) xs a in
    if x == a then (record { program = p; rank = rank } ∷ rest) else rest

-- the places of an applicant on these programs' lists, in the programs' order from a number on
abbrev pub entries_from : ℕ → List (List ℕ) → ℕ → List Live
entries_from p [] a = []
entries_from p (ranking ∷ rankings) a = entries_in p 0 ranking a ++ entries_from (p + 1) rankings a

-- the lists of a market's programs, and the places of an applicant on them
abbrev pub rankings_of : Market → List (List ℕ)
rankings_of m = map Program.ranking m.programs

abbrev pub own_entries : Market → ℕ → List Live
own_entries m a = entries_from 0 (rankings_of m) a

-- how often a list has an applicant, and how often lists have it together
abbrev pub times_in : List ℕ → ℕ → ℕ
times_in ranking a = count (λ x. x == a) ranking

abbrev pub times_listed : List (List ℕ) → ℕ → ℕ
times_listed [] a = 0
times_listed (ranking ∷ rankings) a = times_in ranking a + times_listed rankings a

-- there is room to add to each applicant's count how often a list has it
abbrev pub CanBeCounted : List ℕ → List ℕ → Type 0
CanBeCounted counts ranking =
    (a : ℕ) → a < length counts → slice_index counts a + times_in ranking a < 2 ^ 64

-- that is added
abbrev pub IsCounted : List ℕ → List ℕ → List ℕ → Type 0
IsCounted old new ranking =
    (a : ℕ) → a < length old → slice_index new a ≡ slice_index old a + times_in ranking a

-- how often programs list each applicant, and each of `size` applicants from a number on
abbrev pub all_times : Market → List ℕ
all_times m = map (times_listed (rankings_of m)) (below (applicants m))

abbrev pub ListedTimes : Market → ℕ → ℕ → List ℕ → Type 0
ListedTimes m from size times =
    times ≡ map (λ k. times_listed (rankings_of m) (from + k)) (below size)

-- the rank at a program, among entries
abbrev pub rank_among : List Live → ℕ → Option ℕ
rank_among [] p = None
rank_among (x ∷ xs) p = if x.program == p then Some x.rank else rank_among xs p

-- the entry of a program, if the entries have it
abbrev pub entry_among : List Live → ℕ → Option Live
entry_among entries p = option_map (λ r. record { program = p; rank = r }) (rank_among entries p)

-- the entries of the programs of a list, in the list's order
abbrev pub entries_among : List Live → List ℕ → List Live
entries_among entries list = filter_map (entry_among entries) list

-- the entries' programs go up, from a number on
abbrev pub AscendFrom : ℕ → List Live → Type 0
AscendFrom p [] = Unit {0}
AscendFrom p (x ∷ xs) = (p ≤ x.program) × AscendFrom (x.program + 1) xs
