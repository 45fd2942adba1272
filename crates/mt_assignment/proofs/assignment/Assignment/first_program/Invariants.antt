use Rattle.std.proofs.Common.{◌≡◌, drop}
use Rattle.std.specs.List.{find}
use Rattle.std.specs.Option.{option_map}
use Rattle.mt_terms.specs.Matching.{single_placement}
use Rattle.mt_terms.specs.declared.numbers.Agent.TheVariants.{Single}
use Rattle.mt_ranks.specs.declared.entries.Live.{Live}
use Rattle.mt_assignment.specs.Assigned.{has_post, taken_by}
use Rattle.mt_assignment.proofs.assignment.Assignment.first_program.Given as goal

abbrev pub invariant-loop-entry : goal.invariant-loop-entry
invariant-loop-entry l =
    option_map (single_placement l.fn.single) (option_map (λ (e : Live). e.program) (find (λ (e : Live). has_post l.self e.program e.rank) (drop l.entry-index l.entry-items)))
    ≡ taken_by l.self (Single l.fn.single)
