use Rattle.std.proofs.Common.{◌≡◌, map}
use Rattle.mt_terms.specs.Lists.{below}
use Rattle.mt_reordered.specs.Copied.{renumbered_agent}
use Rattle.mt_reordered.proofs.couples.renumbered_agents.Given as goal

abbrev pub invariant-loop-number : goal.invariant-loop-number
invariant-loop-number l = l.agents.items ≡ map (renumbered_agent l.roster.market l.order) (below l.number)
