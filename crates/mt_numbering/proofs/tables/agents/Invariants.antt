use Rattle.std.proofs.Common.{◌≡◌, map, drop}
use Rattle.mt_terms.specs.Lists.{below}
use Rattle.mt_terms.specs.Market.{agent_from}
use Rattle.mt_numbering.specs.Numbered.{bare_couples}
use Rattle.mt_numbering.proofs.tables.agents.Given as goal

abbrev pub invariant-loop-number : goal.invariant-loop-number
invariant-loop-number l = l.agents.items ≡ map (agent_from (bare_couples (drop l.number l.members)) l.number) (below l.count)
