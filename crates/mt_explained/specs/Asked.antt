-- Which agents are explained: those with the ids that are asked for, or all of them.
use Rattle.std.specs.Prelude.{List, [], ◌∷◌, filter_map}
use Rattle.mt_match_file.specs.Agents.{agent_named}
use Rattle.mt_terms.specs.Market.{Registered, agents}
use Rattle.mt_terms.specs.Registration.Ids.{Bytes}
use Rattle.mt_terms.specs.declared.numbers.Agent.{Agent}

-- the agents with these ids, in their order, or all agents of the market if there is no id
abbrev pub agents_asked : Registered → List Bytes → List Agent
agents_asked r [] = agents r.market
agents_asked r (id ∷ ids) = filter_map (agent_named r) (id ∷ ids)
