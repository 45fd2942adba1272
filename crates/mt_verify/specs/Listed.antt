-- Places by the lists of singles and couples, and of programs.
use Rattle.std.specs.Prelude.{◌≡◌, ℕ, Bool, not, ◌&&◌, ◌||◌, ◌==◌, List, map, Option, is_some, Vec}
use Rattle.std.specs.Global.{Global}
use Rattle.std.specs.List.{list_any}
use Rattle.mt_terms.specs.Market.{Market, Pair, agent_of}
use Rattle.mt_terms.specs.Matching.{Places, is_program, is_same_place, placed_ranks, ranks_by_program}
use Rattle.mt_terms.specs.Stability.{has_own_option}
use Rattle.mt_terms.specs.Verdict.{lowest_number}
use Rattle.mt_terms.specs.declared.numbers.Agent.{Agent}

-- whether a place is on a single's list, or none
abbrev pub is_own_place : List ℕ → Option ℕ → Bool
is_own_place list place = list_any (λ p. is_program p place) list || not (is_some place)

-- whether two places are a pair
abbrev pub is_pair : Option ℕ → Option ℕ → Pair → Bool
is_pair first second pair = is_same_place first pair.0 && is_same_place second pair.1

-- whether both places are none
abbrev pub are_none : Option ℕ → Option ℕ → Bool
are_none first second = not (is_some first) && not (is_some second)

-- whether two places are a pair of a couple's list, or both none
abbrev pub is_own_pair : List Pair → Option ℕ → Option ℕ → Bool
is_own_pair list first second = list_any (is_pair first second) list || are_none first second

-- whether an applicant has the lowest number of its agent, and the agent has no option of its own
abbrev pub is_off_own_list : Market → Places → ℕ → Bool
is_off_own_list m places a = (lowest_number m g == a) && not (has_own_option m places g)
  where
    g : Agent
    g = agent_of m a

-- a vector holds the ranks of those that are placed at a program, and vectors those at each program
abbrev pub HoldsRanksAt : Market → Places → ℕ → Vec ℕ Global → Type 0
HoldsRanksAt m places p ranks = ranks.items ≡ placed_ranks m places p

abbrev pub HoldRanks : Market → Places → List (Vec ℕ Global) → Type 0
HoldRanks m places vectors = map Vec.items vectors ≡ ranks_by_program m places
