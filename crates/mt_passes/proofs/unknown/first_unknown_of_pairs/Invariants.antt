use Rattle.std.proofs.Common.{◌≡◌}
use Rattle.std.specs.List.{flat_map}
use Rattle.mt_terms.specs.Registration.Passes.{first_not_in, named}
use Rattle.mt_records.specs.Fields.{pairs_left}
use Rattle.mt_passes.proofs.unknown.first_unknown_of_pairs.Given as goal

-- the rest decides
abbrev pub invariant-loop-pair : goal.invariant-loop-pair
invariant-loop-pair l = first_not_in l.all (flat_map named (pairs_left l.pair-iterator)) ≡ first_not_in l.all (flat_map named (pairs_left l.fn.list))
