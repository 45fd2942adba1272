use Rattle.std.proofs.Common.{◌≡◌}
use Rattle.mt_lists.specs.Rows.{fields_left}
use Rattle.mt_terms.specs.Registration.Records.{are_ids}
use Rattle.mt_records.proofs.fields.are_ids.Given as goal

-- the rest decides
abbrev pub invariant-loop-field : goal.invariant-loop-field
invariant-loop-field l = are_ids l.rules (fields_left l.field-iterator) ≡ are_ids l.rules (fields_left l.fn.fields)
