use Rattle.std.proofs.Common.{◌≡◌, ◌++◌, drop}
use Rattle.std.specs.Prelude.{filter, filter_map}
use Rattle.mt_records.specs.Records.{all_seen}
use Rattle.mt_numbering.specs.Reading.{members_by}
use Rattle.mt_numbering.specs.Withdrawals.{stays_after}
use Rattle.mt_numbering.proofs.entries.members.Given as goal

abbrev pub invariant-loop-one : goal.invariant-loop-one
invariant-loop-one l =
    l.members.items ++ filter_map (members_by l.applicants) (filter (stays_after l.withdrawn) (all_seen (drop l.one-index l.records)))
    ≡ filter_map (members_by l.applicants) (filter (stays_after l.withdrawn) (all_seen l.records))
