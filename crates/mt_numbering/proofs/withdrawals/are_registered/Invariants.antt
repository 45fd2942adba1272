use Rattle.std.proofs.Common.{take}
use Rattle.mt_records.specs.Records.{all_seen}
use Rattle.mt_numbering.specs.Registered.{is_registered}
use Rattle.mt_numbering.proofs.WithdrawalFacts.{AreKnown}
use Rattle.mt_numbering.proofs.withdrawals.are_registered.Given as goal

abbrev pub invariant-loop-one : goal.invariant-loop-one
invariant-loop-one l = AreKnown (is_registered l.ids l.singles) (all_seen (take l.one-index l.records))
