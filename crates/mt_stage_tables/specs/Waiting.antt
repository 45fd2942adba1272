-- A work list of agents, and how many applicants and couples there are.
use Rattle.std.specs.Prelude.{ℕ, ◌<◌, List, [], ◌∷◌, IsTrue}
use Rattle.std.specs.List.{IsDistinct}
use Rattle.mt_terms.specs.Rounds.{is_on, is_same_agent}
use Rattle.mt_terms.specs.declared.numbers.Agent.{Agent}
use Rattle.mt_terms.specs.declared.numbers.Agent.TheVariants.{Single, Couple}

pub record Waiting : Type 0 where
  pub applicants : ℕ
  pub couples : ℕ
  pub agents : List Agent

-- the work list with these agents on it
abbrev pub with_agents : Waiting → List Agent → Waiting
with_agents w gs = record w { agents = gs }

-- the work list with nobody on it, for this many applicants and couples
abbrev pub nobody : ℕ → ℕ → Waiting
nobody applicants couples = record { applicants = applicants; couples = couples; agents = [] }

-- the work list with an agent before all others
abbrev pub waiting_first : Agent → Waiting → Waiting
waiting_first g w = with_agents w (g ∷ w.agents)

-- an agent has a number within these
abbrev pub IsWithin : ℕ → ℕ → Agent → Type 0
IsWithin applicants couples (Single a) = a < applicants
IsWithin applicants couples (Couple c) = c < couples

-- an agent's number is that of an applicant or a couple of the work list
abbrev pub IsKnown : Waiting → Agent → Type 0
IsKnown w g = IsWithin w.applicants w.couples g

-- of this many applicants and couples each agent waits once at most
pub record WaitOnce (applicants couples : ℕ) (agents : List Agent) : Type 0 where
  pub once : IsDistinct is_same_agent agents
  pub known : (g : Agent) → IsTrue (is_on agents g) → IsWithin applicants couples g
