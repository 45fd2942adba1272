use Rattle.std.proofs.Common.{◌≡◌, ◌&&◌, drop}
use Rattle.std.specs.List.{list_any}
use Rattle.mt_terms.specs.Lists.{has}
use Rattle.mt_terms.specs.declared.numbers.Agent.TheVariants.{Single}
use Rattle.mt_ranks.specs.declared.entries.Live.{Live}
use Rattle.mt_assignment.specs.Assigned.{has_post}
use Rattle.mt_assignment.specs.Moves.{opens}
use Rattle.mt_assignment.proofs.assignment.Assignment.single_opens.Given as goal

abbrev pub invariant-loop-entry : goal.invariant-loop-entry
invariant-loop-entry l =
    list_any (λ (e : Live). has l.programs e.program && has_post l.self e.program e.rank) (drop l.entry-index l.entry-items) ≡ opens l.self l.programs (Single l.fn.single)
