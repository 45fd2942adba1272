-- What is found when programs that were left are rechecked.
use Rattle.std.specs.Prelude.{◌≡◌, ℕ, ◌<◌, true, List, length, Some}
use Rattle.mt_terms.specs.Lists.{has}
use Rattle.mt_terms.specs.Market.{Market, applicants, agent_of, program_of}
use Rattle.mt_terms.specs.declared.numbers.Agent.{Agent}
use Rattle.mt_ranks.specs.Ranked.{rank_of}
use Rattle.mt_assignment.specs.Assigned.{Assigned, AreApplicantsOf}
use Rattle.mt_assignment.specs.Blocking.{is_reopened}

-- applicants of a market were added to some, and nobody was lost
pub record Adds (m : Market) (old new : List ℕ) : Type 0 where
  pub keeps : (a : ℕ) → has old a ≡ true → has new a ≡ true
  pub within : AreApplicantsOf m old → AreApplicantsOf m new

-- these are the ranks of some applicants on a program's list
pub record AreRanksOf (m : Market) (p : ℕ) (xs ranks : List ℕ) : Type 0 where
  pub within : (r : ℕ) → has ranks r ≡ true → r < length (program_of m p).ranking
  pub all : (a r : ℕ) → has xs a ≡ true → rank_of m p a ≡ Some r → has ranks r ≡ true

-- these are ranks of a program's list, and each agent on it that is reopened has one of them
pub record HaveReopened (k : ℕ) (s : Assigned) (p : ℕ) (ps : List ℕ) (waiting : List Agent) (ranks : List ℕ) : Type 0 where
  pub within : (r : ℕ) → has ranks r ≡ true → r < length (program_of s.market p).ranking
  pub all : (a r : ℕ) → a < applicants s.market → is_reopened k s ps waiting (agent_of s.market a) ≡ true → rank_of s.market p a ≡ Some r → has ranks r ≡ true
