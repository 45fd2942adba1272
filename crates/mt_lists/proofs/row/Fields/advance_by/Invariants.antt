use Rattle.std.proofs.Common.{◌≡◌, drop}
use Rattle.mt_lists.specs.Rows.{fields_left}
use Rattle.mt_lists.proofs.row.Fields.advance_by.Given as goal

abbrev pub invariant-loop-past : goal.invariant-loop-past
invariant-loop-past l = fields_left l.self ≡ drop l._past (fields_left l.initial.self)
