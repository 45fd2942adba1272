use Rattle.std.proofs.Common.{◌≡◌, map}
use Rattle.mt_terms.specs.Lists.{below}
use Rattle.mt_terms.specs.Matching.{placed_ranks}
use Rattle.mt_assignment.proofs.assignment.placed_rows.Given as goal

abbrev pub invariant-loop-number : goal.invariant-loop-number
invariant-loop-number l = l.rows.items ≡ map (placed_ranks l.roster.market l.places) (below l.number)
