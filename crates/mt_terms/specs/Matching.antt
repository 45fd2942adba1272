-- A match, who is where in it, and where an option sends an agent's members.
use Rattle.std.specs.Prelude.{◌≡◌, ℕ, ◌+◌, ◌<◌, Bool, true, false, not, ◌==◌, List, [], ◌∷◌, map, length, Option, Some, None, slice_index_or, slice_set, is_some, if◌then◌else◌}
use Rattle.std.specs.List.{list_all}
use Rattle.mt_terms.specs.Lists.{Set, until, count, below}
use Rattle.mt_terms.specs.Market.{Market, Pair, list_of, couple_of, program_of}
use Rattle.mt_terms.specs.declared.numbers.Agent.{Agent}
use Rattle.mt_terms.specs.declared.numbers.Agent.TheVariants.{Single, Couple}

-- a match: for each applicant, by number, the program where it is placed, or none
abbrev pub Places : Type 0
Places = List (Option ℕ)

-- where an applicant is placed
abbrev pub place_of : Places → ℕ → Option ℕ
place_of places a = slice_index_or places a None

-- whether a place is this program
abbrev pub is_program : ℕ → Option ℕ → Bool
is_program p None = false
is_program p (Some q) = q == p

-- the applicants that are placed at a program
abbrev pub at : Places → ℕ → Set
at places p a = is_program p (place_of places a)

-- how many applicants are placed at a program
abbrev pub filled : Places → ℕ → ℕ
filled places p = count (is_program p) places

-- the same of each program
abbrev pub filled_counts : Market → Places → List ℕ
filled_counts m places = map (filled places) (below (length m.programs))

-- the positions of the members of a set on a list, in rising order, if the first position has this number
abbrev pub ranks_from : ℕ → Set → List ℕ → List ℕ
ranks_from rank set [] = []
ranks_from rank set (x ∷ xs) = if set x then (rank ∷ ranks_from (rank + 1) set xs) else ranks_from (rank + 1) set xs

-- the ranks, on a program's list, of those that a match places there
abbrev pub placed_ranks : Market → Places → ℕ → List ℕ
placed_ranks m places p = ranks_from 0 (at places p) (program_of m p).ranking

-- for each program the ranks of those that a match places there
abbrev pub ranks_by_program : Market → Places → List (List ℕ)
ranks_by_program m places = map (placed_ranks m places) (below (length m.programs))

-- whether two places are the same
abbrev pub is_same_place : Option ℕ → Option ℕ → Bool
is_same_place None None = true
is_same_place None (Some q) = false
is_same_place (Some p) None = false
is_same_place (Some p) (Some q) = p == q

-- what an option asks for: a place for each member of the agent
abbrev pub Placement : Type 0
Placement = List (ℕ × Option ℕ)

-- the placement of a single at a program
abbrev pub single_placement : ℕ → ℕ → Placement
single_placement a p = (a, Some p) ∷ []

-- the placement of a couple's two members by a pair
abbrev pub couple_placement : ℕ → ℕ → Pair → Placement
couple_placement a b pair = (a, pair.0) ∷ (b, pair.1) ∷ []

-- the options of an agent, the most wanted first
abbrev pub options : Market → Agent → List Placement
options m (Single a) = map (single_placement a) (list_of m a)
options m (Couple c) = map (couple_placement (couple_of m c).first (couple_of m c).second) (couple_of m c).pairs

-- the match with the members of a placement moved to where it sends them, the others as they were
abbrev pub send : Placement → Places → Places
send [] places = places
send (s ∷ sent) places = send sent (slice_set places s.0 s.1)

-- whether a match places each member where the placement sends it
abbrev pub holds : Places → Placement → Bool
holds places sent = list_all (λ s. is_same_place (place_of places s.0) s.1) sent

-- the match with these applicants unplaced
abbrev pub unplaced : List ℕ → Places → Places
unplaced [] places = places
unplaced (a ∷ xs) places = unplaced xs (slice_set places a None)

-- whether none of these applicants is placed
abbrev pub none_placed : Places → List ℕ → Bool
none_placed places xs = list_all (λ a. not (is_some (place_of places a))) xs

-- an agent's options that are better than what it has: those earlier on its list. If it has none of them, all
-- are better
abbrev pub better : Market → Places → Agent → List Placement
better m places agent = until (holds places) (options m agent)

-- Two matches place the same applicants and equally many at each program, and a program with a free post
-- has the same applicants in both.
pub record FillsAlike (m : Market) (s t : Places) : Type 0 where
  pub same_placed : (a : ℕ) → is_some (place_of s a) ≡ is_some (place_of t a)
  pub equally_many : (p : ℕ) → filled s p ≡ filled t p
  pub same_where_free : (p : ℕ) → filled s p < (program_of m p).quota → (a : ℕ) → at s p a ≡ at t p a
