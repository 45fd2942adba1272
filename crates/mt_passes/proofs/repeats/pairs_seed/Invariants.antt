use Rattle.std.proofs.Common.{◌≡◌}
use Rattle.std.specs.Prelude.{flat_map}
use Rattle.mt_records.specs.Fields.{pairs_left}
use Rattle.mt_ids.specs.Seeds.{digest_of, with_fields}
use Rattle.mt_passes.specs.Seeds.{pair_fields}
use Rattle.mt_passes.proofs.repeats.pairs_seed.Given as goal

-- with the pairs that have yet to come, the digest is what it will be
abbrev pub invariant-loop-first : goal.invariant-loop-first
invariant-loop-first l = with_fields l.digest (flat_map pair_fields (pairs_left l.first-iterator)) ≡ digest_of (flat_map pair_fields (pairs_left l.fn.pairs))
