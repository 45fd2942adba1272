-- What a work list is to a market, how it changes, and who joins it.
use Rattle.std.specs.Prelude.{◌≡◌, ℕ, List, [], ◌∷◌, length, map, if◌then◌else◌}
use Rattle.std.specs.List.{flat_map}
use Rattle.mt_terms.specs.Market.{Market, applicants, agent_of}
use Rattle.mt_terms.specs.Rounds.{all_joined, blocking_on_list}
use Rattle.mt_terms.specs.Stability.{blocks}
use Rattle.mt_terms.specs.declared.numbers.Agent.{Agent}
use Rattle.mt_stage_tables.specs.Waiting.{Waiting, with_agents}
use Rattle.mt_assignment.specs.Assigned.{Assigned}

-- a list of agents of a market has room for all of them
pub record IsListOf (m : Market) (w : Waiting) : Type 0 where
  pub applicants_are : w.applicants ≡ applicants m
  pub couples_are : w.couples ≡ length m.couples

-- the room stays the same
abbrev pub KeepsRoom : Waiting → Waiting → Type 0
KeepsRoom old new = new ≡ with_agents old new.agents

-- these agents join, one after another
abbrev pub Joins : Waiting → Waiting → List Agent → Type 0
Joins old new gs = new ≡ with_agents old (all_joined old.agents gs)

-- the agents of these applicants
abbrev pub agents_of : Assigned → List ℕ → List Agent
agents_of s xs = map (agent_of s.market) xs

-- an agent, if it blocks
abbrev pub if_blocking : Assigned → Agent → List Agent
if_blocking s g = if blocks s.market s.places g then (g ∷ []) else []

-- the agents of a program's list that have entered and block
abbrev pub blockers : Assigned → ℕ → ℕ → List Agent
blockers s k p = blocking_on_list s.market k s.places p

-- those of several programs' lists, one list after another
abbrev pub blockers_of : Assigned → ℕ → List ℕ → List Agent
blockers_of s k ps = flat_map (blockers s k) ps
