-- The agents of a market by their ids.
use Rattle.std.specs.Prelude.{◌≡◌, ℕ, not, List, Option, Some, None, is_some, option_map, find, filter_map, position, bytes_eq}
use Rattle.mt_terms.specs.Market.{Market, Registered, agent_of}
use Rattle.mt_terms.specs.Registration.Ids.{Bytes}
use Rattle.mt_terms.specs.declared.numbers.Agent.{Agent}
use Rattle.mt_terms.specs.declared.numbers.Agent.TheVariants.{Couple}
use Rattle.mt_match_file.specs.declared.agents.NamedAgents.{NamedAgents}
use Rattle.mt_match_file.specs.declared.agents.NamedAgents.TheVariants.{Agents, Unknown}

-- the agent of an applicant, or else the couple
abbrev pub agent_by : Market → Option ℕ → Option ℕ → Option Agent
agent_by m (Some a) couple = Some (agent_of m a)
agent_by m None couple = option_map Couple couple

-- The agent with an id: that of the applicant with this id, or else the couple with it. So a couple's member names its
-- couple.
abbrev pub agent_named : Registered → Bytes → Option Agent
agent_named r id = agent_by r.market (position (bytes_eq id) r.names.applicants) (position (bytes_eq id) r.names.couples)

-- the first id that no agent of the market has
abbrev pub first_unknown : Registered → List Bytes → Option Bytes
first_unknown r ids = find (λ id. not (is_some (agent_named r id))) ids

-- these are the agents with these ids, or this is the first that no agent has
abbrev pub AreNamed : Registered → List Bytes → NamedAgents → Type 0
AreNamed r ids (Agents agents) = (first_unknown r ids ≡ None) × (agents.items ≡ filter_map (agent_named r) ids)
AreNamed r ids (Unknown word) = first_unknown r ids ≡ Some word.now
