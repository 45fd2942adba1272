use Rattle.std.proofs.Common.{◌≡◌}
use Rattle.mt_lists.specs.Rows.{fields_left}
use Rattle.mt_terms.specs.Registration.Passes.{first_not_in}
use Rattle.mt_passes.proofs.unknown.first_unknown.Given as goal

-- the rest decides
abbrev pub invariant-loop-id : goal.invariant-loop-id
invariant-loop-id l = first_not_in l.all (fields_left l.id-iterator) ≡ first_not_in l.all (fields_left l.fn.list)
