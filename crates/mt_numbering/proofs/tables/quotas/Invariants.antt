use Rattle.std.proofs.Common.{◌≡◌, ◌++◌, drop}
use Rattle.std.specs.Prelude.{filter_map}
use Rattle.mt_records.specs.Records.{all_seen}
use Rattle.mt_numbering.specs.Numbered.{quota_in}
use Rattle.mt_numbering.proofs.tables.quotas.Given as goal

abbrev pub invariant-loop-one : goal.invariant-loop-one
invariant-loop-one l =
    l.quotas.items ++ filter_map quota_in (all_seen (drop l.one-index l.records)) ≡ filter_map quota_in (all_seen l.records)
