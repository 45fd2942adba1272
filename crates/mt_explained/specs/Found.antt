-- What was found of the words that an explanation is asked by.
use Rattle.std.specs.Prelude.{◌≡◌, List, None, Some}
use Rattle.mt_terms.specs.Market.{Registered}
use Rattle.mt_terms.specs.Registration.Ids.{Bytes}
use Rattle.mt_match_file.specs.Agents.{first_unknown}
use Rattle.mt_match_file.specs.declared.agents.NamedAgents.{NamedAgents}
use Rattle.mt_match_file.specs.declared.agents.NamedAgents.TheVariants.{Agents, Unknown}
use Rattle.mt_explained.specs.Asked.{agents_asked}

-- these are the agents that are asked for by these ids, or this is the first that no agent has
abbrev pub AreAsked : Registered → List Bytes → NamedAgents → Type 0
AreAsked r ids (Agents agents) = (first_unknown r ids ≡ None) × (agents.items ≡ agents_asked r ids)
AreAsked r ids (Unknown word) = first_unknown r ids ≡ Some word.now
