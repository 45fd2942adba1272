use Rattle.std.proofs.Common.{◌≡◌, map}
use Rattle.mt_terms.specs.Lists.{below}
use Rattle.mt_terms.specs.Text.{name_of}
use Rattle.mt_reordered.proofs.copies.program_ids.Given as goal

abbrev pub invariant-loop-number : goal.invariant-loop-number
invariant-loop-number l = l.ids ≡ map (name_of l.roster.names.programs) (below l.number)
