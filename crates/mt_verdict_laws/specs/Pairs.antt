-- Stability by the pairs that block.
use Rattle.std.specs.Prelude.{◌≡◌, ◌⊎◌, ◌↔◌, ℕ, ◌<◌, ◌≤◌, ◌==◌, length, IsTrue}
use Rattle.mt_terms.specs.Lists.{has, until}
use Rattle.mt_terms.specs.Market.{Market, applicants, program_of, list_of, singles_market}
use Rattle.mt_terms.specs.Matching.{Places, at, filled}
use Rattle.mt_terms.specs.Stability.{stable}
use Rattle.mt_terms.specs.Best.{better_programs}
use Rattle.mt_terms.specs.WellFormed.{IsWellFormed}

-- whether a program has a free post, or somebody there whom it wants less than this applicant
abbrev pub HasRoomFor : Market → Places → ℕ → ℕ → Type 0
HasRoomFor m places p a =
    (filled places p < (program_of m p).quota) ⊎ ((b : ℕ) × IsTrue (at places p b) × IsTrue (has (until (λ x. x == b) (program_of m p).ranking) a))

-- An applicant and a program block if they list each other, the applicant wants the program more than what it has,
-- and the program has room for it.
pub record IsBlockingPair (m : Market) (places : Places) (a p : ℕ) : Type 0 where
  pub is_better : IsTrue (has (better_programs m places a) p)
  pub is_listed : IsTrue (has (program_of m p).ranking a)
  pub has_room : HasRoomFor m places p a

-- Stability for hospitals and residents as in Gusfield and Irving 1989.
pub record IsStableByPairs (m : Market) (places : Places) : Type 0 where
  pub one_each : length places ≡ applicants m
  pub on_list : (a p : ℕ) → IsTrue (at places p a) → IsTrue (has (list_of m a) p)
  pub listed : (a p : ℕ) → IsTrue (at places p a) → IsTrue (has (program_of m p).ranking a)
  pub within : (p : ℕ) → filled places p ≤ (program_of m p).quota
  pub no_blocking_pair : (a p : ℕ) → ¬ IsBlockingPair m places a p

abbrev pub StabilityByPairs : Type 0
StabilityByPairs = (m : Market) → IsWellFormed m → (places : Places) → IsTrue (stable (singles_market m) places) ↔ IsStableByPairs m places
