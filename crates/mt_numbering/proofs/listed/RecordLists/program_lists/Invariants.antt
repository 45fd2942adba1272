use Rattle.std.proofs.Common.{◌≡◌, ◌++◌, drop, map}
use Rattle.mt_numbered.specs.IdLists.{list_seen}
use Rattle.mt_records.specs.Records.{all_seen}
use Rattle.mt_numbering.specs.Numbered.{program_lists}
use Rattle.mt_numbering.specs.Reading.{lists_of_programs}
use Rattle.mt_numbering.specs.Withdrawals.{stays_after}
use Rattle.mt_numbering.proofs.listed.RecordLists.program_lists.Given as goal

abbrev pub invariant-loop-one : goal.invariant-loop-one
invariant-loop-one l =
    map list_seen l.lists.items ++ program_lists (stays_after l.self.withdrawn.now) (all_seen (drop l.one-index l.one-items))
    ≡ lists_of_programs l.self
