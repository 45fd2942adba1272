-- A market as rank tables show it: its live market, and which of its applicants are singles. Ranks on the
-- programs' lists are as in the ranking matrices of Gusfield and Irving 1989.
use Rattle.std.specs.Prelude.{◌≡◌, ℕ, ◌+◌, ◌<◌, ◌≤◌, ◌^◌, Bool, true, false, ◌==◌, List, [], map, length, Option, Some, unwrap_or, IsTrue, slice_index, slice_index_or}
use Rattle.std.specs.List.{position}
use Rattle.mt_terms.specs.Lists.{has, below, total_below}
use Rattle.mt_terms.specs.Market.{Market, applicants, program_of, list_of, live, live_market, agent_of}
use Rattle.mt_terms.specs.WellFormed.{IsWellFormed}
use Rattle.mt_terms.specs.declared.numbers.Agent.{Agent}
use Rattle.mt_terms.specs.declared.numbers.Agent.TheVariants.{Single, Couple}
use Rattle.mt_terms.specs.declared.limits.TheConstants.{LIMITS_2}
use Rattle.mt_ranks.specs.declared.entries.Live.{Live}

-- whether an agent is a single
abbrev pub is_single_agent : Agent → Bool
is_single_agent (Single a) = true
is_single_agent (Couple c) = false

-- whether an applicant is a single, and no member of a couple
abbrev pub is_single : Market → ℕ → Bool
is_single m a = is_single_agent (agent_of m a)

-- a market of singles, and for each applicant whether it is a single
pub record Ranked : Type 0 where
  pub market : Market
  pub singles : List Bool

-- for each applicant of a market whether it is a single
abbrev pub single_flags : Market → List Bool
single_flags m = map (is_single m) (below (applicants m))

-- the rank tables of a market: the singles' market with live lists alone, and who is a single in the market
abbrev pub ranked_of : Market → Ranked
ranked_of m = record { market = live_market m; singles = single_flags m }

-- a program's rank order list, the most wanted first
abbrev pub ranking_of : Market → ℕ → List ℕ
ranking_of m p = (program_of m p).ranking

-- an applicant's rank on a program's list: its position from 0, if the list has it
abbrev pub rank_of : Market → ℕ → ℕ → Option ℕ
rank_of m p a = position (λ x. x == a) (ranking_of m p)

-- a program that has the applicant on its list, with the applicant's rank there
abbrev pub ranked_entry : Market → ℕ → ℕ → Live
ranked_entry m a p = record { program = p; rank = unwrap_or (rank_of m p a) 0 }

-- the programs of an applicant's list, each with the applicant's rank there
abbrev pub ranked_list : Market → ℕ → List Live
ranked_list m a = map (ranked_entry m a) (list_of m a)

-- a number is the applicant's rank on a list: the first position at which the list has it
pub record IsRank (ranking : List ℕ) (a rank : ℕ) : Type 0 where
  pub found : position (λ x. x == a) ranking ≡ Some rank
  pub within : rank < length ranking
  pub stands : slice_index ranking rank ≡ a

-- an entry of an applicant's live list names a program that lists the applicant, and its rank there
pub record IsEntry (m : Market) (a : ℕ) (entry : Live) : Type 0 where
  pub program : entry.program < length m.programs
  pub rank : IsRank (ranking_of m entry.program) a entry.rank

-- how many entries the lists of all applicants have, and those of all programs
abbrev pub entries_of_applicants : Market → ℕ
entries_of_applicants m = total_below (λ a. length (list_of m a)) (applicants m)

abbrev pub entries_of_programs : Market → ℕ
entries_of_programs m = total_below (λ p. length (ranking_of m p)) (length m.programs)

-- and how many both have together
abbrev pub all_entries : Market → ℕ
all_entries m = entries_of_applicants m + entries_of_programs m

-- each program on an applicant's list lists the applicant
abbrev pub AreMutual : Market → ℕ → Type 0
AreMutual m a = (p : ℕ) → IsTrue (has (list_of m a) p) → IsEntry m a (ranked_entry m a p)

-- What all rank tables have: a well-formed market without couples, whose lists are live, and a flag for each
-- applicant. An applicant that is no single has an empty list. There is no more of anything than an input may
-- have.
pub record IsRanked (r : Ranked) : Type 0 where
  pub well_formed : IsWellFormed r.market
  pub no_couples : r.market.couples ≡ []
  pub all_live : (a : ℕ) → live r.market a ≡ list_of r.market a
  pub all_ranked : (a : ℕ) → AreMutual r.market a
  pub flags : length r.singles ≡ applicants r.market
  pub member_lists : (a : ℕ) → slice_index_or r.singles a false ≡ false → list_of r.market a ≡ []
  pub few_applicants : applicants r.market ≤ LIMITS_2.applicants
  pub few_programs : length r.market.programs ≤ LIMITS_2.programs
  pub few_entries : all_entries r.market < 2 ^ 32
