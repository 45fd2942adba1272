use Rattle.std.proofs.Common.{◌≡◌, length}
use Rattle.std.specs.List.{list_all}
use Rattle.mt_lists.specs.Rows.{fields_left}
use Rattle.mt_terms.specs.Registration.Records.{is_pair}
use Rattle.mt_terms.specs.Lists.{by_twos}
use Rattle.mt_records.proofs.fields.are_pairs.Given as goal

-- the rest decides
abbrev pub invariant-loop-first : goal.invariant-loop-first
invariant-loop-first l = list_all (is_pair l.rules) (by_twos (fields_left l.rest)) ≡ list_all (is_pair l.rules) (by_twos (fields_left l.fn.fields))

abbrev pub decreases-loop-first : goal.decreases-loop-first
decreases-loop-first l = length (by_twos (fields_left l.rest))
