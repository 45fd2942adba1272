use Rattle.std.proofs.Common.{◌≡◌, [], map}
use Rattle.mt_terms.specs.Lists.{below}
use Rattle.mt_terms.specs.Market.{agent_from}
use Rattle.mt_numbering.proofs.tables.singles.Given as goal

abbrev pub invariant-loop-number : goal.invariant-loop-number
invariant-loop-number l = l.agents.items ≡ map (agent_from [] 0) (below l.number)
