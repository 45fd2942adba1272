use Rattle.std.proofs.Common.{take}
use Rattle.mt_records.specs.Records.{all_seen}
use Rattle.mt_numbering.proofs.WithdrawalFacts.{AreSoFar}
use Rattle.mt_numbering.proofs.withdrawals.withdrawn.Given as goal

abbrev pub invariant-loop-one : goal.invariant-loop-one
invariant-loop-one l = AreSoFar (all_seen (take l.one-index l.records)) l.withdrawn
