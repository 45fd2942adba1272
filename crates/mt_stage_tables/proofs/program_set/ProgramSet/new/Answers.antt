use Rattle.std.proofs.Common.{sym, subst}
use Rattle.std.specs.List.Sorted.{IsStrictlySortedBy}
use Rattle.std.specs.Ordering.{nat_cmp}
use Rattle.mt_stage_tables.proofs.program_set.ProgramSet.new.Goals as goal

pub invariant_of-result : goal.invariant_of-result
unfolding IsStrictlySortedBy
invariant_of-result c = record { sorted = subst (IsStrictlySortedBy nat_cmp) (sym c.new.ensures.items) tt }
