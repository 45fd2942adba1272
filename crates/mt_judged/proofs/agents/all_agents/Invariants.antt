use Rattle.std.proofs.Common.{◌≡◌, filter, map}
use Rattle.mt_terms.specs.Lists.{below}
use Rattle.mt_terms.specs.Market.{agent_of, leads}
use Rattle.mt_judged.proofs.agents.all_agents.Given as goal

-- the agents of the applicants so far
abbrev pub invariant-loop-number : goal.invariant-loop-number
invariant-loop-number l = l.agents.items ≡ map (agent_of l.roster.market) (filter (leads l.roster.market) (below l.number))
