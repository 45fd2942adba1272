use Rattle.std.proofs.Common.{take}
use Rattle.mt_drafts.specs.Names.{AreNames}
use Rattle.mt_records.specs.Records.{all_seen}
use Rattle.mt_drafts.proofs.names.NameLists.of.Given as goal

abbrev pub invariant-loop-one : goal.invariant-loop-one
invariant-loop-one l = AreNames (all_seen (take l.one-index l.records)) l.names
