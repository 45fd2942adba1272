use Rattle.std.proofs.Common.{◌≡◌, take}
use Rattle.mt_ids.specs.Seeds.{digest_of}
use Rattle.mt_ids.proofs.id_set.seed_of.Given as goal

-- the digest of the names so far
abbrev pub invariant-loop-number : goal.invariant-loop-number
invariant-loop-number l = l.digest ≡ digest_of (take l.number l.names)
