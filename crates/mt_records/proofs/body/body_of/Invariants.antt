use Rattle.std.proofs.Common.{◌≡◌, ◌+◌, length}
use Rattle.mt_lists.specs.Rows.{rows_left}
use Rattle.mt_terms.specs.Registration.Passes.{numbered_from}
use Rattle.mt_records.specs.Bodies.{body_in}
use Rattle.mt_records.proofs.body.body_of.Given as goal

-- the rows that have yet to come decide
abbrev pub invariant-loop-row : goal.invariant-loop-row
invariant-loop-row l = record {
  body : body_in (numbered_from 1 l.fn.rows) ≡ body_in (numbered_from (l.number + 1) (rows_left l.rest));
  count : l.number + length (rows_left l.rest) ≡ length l.fn.rows;
}

abbrev pub decreases-loop-row : goal.decreases-loop-row
decreases-loop-row l = length (rows_left l.rest)
