use Rattle.std.proofs.Common.{◌≡◌, take}
use Rattle.mt_ids.specs.Seeds.{digest_of}
use Rattle.mt_records.specs.Records.{all_seen}
use Rattle.mt_numbering.specs.Withdrawals.{withdrawn_ids}
use Rattle.mt_numbering.proofs.withdrawals.seed_of.Given as goal

-- the digest of the ids that the records so far withdraw
abbrev pub invariant-loop-one : goal.invariant-loop-one
invariant-loop-one l = l.digest ≡ digest_of (withdrawn_ids (all_seen (take l.one-index l.records)))
