-- The applicant-optimal stable match of the singles (Gale and Shapley 1962), and how many proposals each
-- program receives on the way to it (McVitie and Wilson 1971).
use Rattle.std.specs.Prelude.{ℕ, List, IsTrue, IsFalse}
use Rattle.mt_terms.specs.Lists.{has, until, through, count_below}
use Rattle.mt_terms.specs.Market.{Market, singles_market, applicants, live, list_of}
use Rattle.mt_terms.specs.Matching.{Places, at}
use Rattle.mt_terms.specs.Stability.{stable}

-- no stable match of the singles' market has the applicant at the program
abbrev pub IsExcluded : Market → ℕ → ℕ → Type 0
IsExcluded m a p = (places : Places) → IsTrue (stable (singles_market m) places) → IsFalse (at places p a)

-- the programs that an applicant wants more than what it has
abbrev pub better_programs : Market → Places → ℕ → List ℕ
better_programs m places a = until (λ p. at places p a) (list_of m a)

-- A match of the singles' market is best if it is stable and no stable match gives any single a program that it wants
-- more.
pub record IsBest (m : Market) (places : Places) : Type 0 where
  pub is_stable : IsTrue (stable (singles_market m) places)
  pub none_better : (a p : ℕ) → IsTrue (has (better_programs m places a) p) → IsExcluded m a p

-- the programs to which an applicant proposes on the way to the best match: its live list up to its place, or all of
-- it without a place
abbrev pub proposed_to : Market → Places → ℕ → List ℕ
proposed_to m best a = through (λ p. at best p a) (live m a)

-- how many proposals a program receives on the way to the best match
abbrev pub proposals : Market → Places → ℕ → ℕ
proposals m best p = count_below (λ a. has (proposed_to m best a) p) (applicants m)
