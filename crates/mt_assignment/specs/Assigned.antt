-- A market with a match of it.
use Rattle.std.specs.Prelude.{◌≡◌, ℕ, true, Some, Contains, ◌<◌, ◌≤◌, Bool, List, map, filter, take, length, Option, slice_index, slice_set, IsTrue, nat_lt}
use Rattle.mt_terms.specs.Lists.{has, is_distinct, count}
use Rattle.mt_terms.specs.Market.{Market, applicants, program_of, couple_of}
use Rattle.mt_terms.specs.Places.{ArePlaces}
use Rattle.mt_terms.specs.Choice.{choice}
use Rattle.mt_terms.specs.WellFormed.{IsWellFormed}
use Rattle.mt_terms.specs.Matching.{Places, Placement, at, couple_placement}
use Rattle.mt_terms.specs.Rounds.{displaced_at, first_taken}
use Rattle.mt_terms.specs.declared.numbers.Agent.{Agent}

pub record Assigned : Type 0 where
  pub market : Market
  pub places : Places

-- the market with another match, and with the match in which one applicant is moved
abbrev pub with_places : Assigned → Places → Assigned
with_places s places = record s { places = places }

abbrev pub with_place : Assigned → ℕ → Option ℕ → Assigned
with_place s a place = with_places s (slice_set s.places a place)

-- a market with the places of a match
abbrev pub assignment : Market → Places → Assigned
assignment m places = record { market = m; places = places }

-- those that have these ranks on a list
abbrev pub with_ranks : List ℕ → List ℕ → List ℕ
with_ranks list ranks = map (λ r. slice_index list r) ranks

-- how many of those at a program have a rank below this one, and so are on the front of its list
abbrev pub ahead : Assigned → ℕ → ℕ → ℕ
ahead s p rank = count (at s.places p) (take rank (program_of s.market p).ranking)

-- whether an applicant is on a program's list with a rank below this one
abbrev pub is_ahead : Assigned → ℕ → ℕ → ℕ → Bool
is_ahead s p rank a = has (take rank (program_of s.market p).ranking) a

-- whether fewer than its quota of those at a program have a rank below this one
abbrev pub has_post : Assigned → ℕ → ℕ → Bool
has_post s p rank = nat_lt (ahead s p rank) (program_of s.market p).quota

-- whether a program chooses an applicant from those that are there
abbrev pub chooses : Assigned → ℕ → ℕ → Bool
chooses s p a = choice (program_of s.market p) (at s.places p) a

-- the applicants that a program doesn't choose of those there, by its list
abbrev pub displaced_from : Assigned → ℕ → List ℕ
displaced_from s p = filter (displaced_at s.market s.places p) (program_of s.market p).ranking

-- the option that an agent takes: its first better one that would be taken, if there is one
abbrev pub taken_by : Assigned → Agent → Option Placement
taken_by s g = first_taken s.market s.places g

-- where a pair sends the members of a couple
abbrev pub pair_of : Assigned → ℕ → Option ℕ × Option ℕ → Placement
pair_of s c pair = couple_placement (couple_of s.market c).first (couple_of s.market c).second pair

-- each applicant at a program is on that program's list
abbrev pub AreListed : Market → Places → Type 0
AreListed m places = (a p : ℕ) → at places p a ≡ true → has (program_of m p).ranking a ≡ true

-- each applicant sent to a program is on the program's list
abbrev pub AreSentToLists : Market → Placement → Type 0
AreSentToLists m sent = (s : ℕ × Option ℕ) (p : ℕ) → Contains sent s → s.1 ≡ Some p → has (program_of m p).ranking s.0 ≡ true

-- What every assignment has: the market is well formed, and each of its applicants has a place. Each
-- applicant that is placed is on its program's list.
pub record IsAssigned (s : Assigned) : Type 0 where
  pub well_formed : IsWellFormed s.market
  pub are_places : ArePlaces s.market s.places
  pub listed : AreListed s.market s.places

-- What is asked of where applicants are sent: two applicants of the market at most, each once.
pub record AreSent (m : Market) (sent : Placement) : Type 0 where
  pub distinct : IsTrue (is_distinct (map (λ s. s.0) sent))
  pub within : (a : ℕ) → IsTrue (has (map (λ s. s.0) sent) a) → a < applicants m
  pub few : length sent ≤ 2

-- each of these numbers is that of an applicant of the market
abbrev pub AreApplicantsOf : Market → List ℕ → Type 0
AreApplicantsOf m xs = (a : ℕ) → IsTrue (has xs a) → a < applicants m

-- each of these numbers is that of a program of the market
abbrev pub AreProgramsOf : Market → List ℕ → Type 0
AreProgramsOf m ps = (p : ℕ) → IsTrue (has ps p) → p < length m.programs
