use Rattle.std.proofs.Common.{◌≡◌}
use Rattle.mt_ids.specs.Seeds.{seed_of}
use Rattle.mt_ids.proofs.IdFacts.{HasFirst}
use Rattle.mt_ids.proofs.id_set.filled_set.Given as goal

abbrev pub invariant-loop-i : goal.invariant-loop-i
invariant-loop-i l = HasFirst l.names l.set.ids l.i × (l.set.seed ≡ seed_of l.names)
