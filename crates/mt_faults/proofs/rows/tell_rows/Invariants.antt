use Rattle.std.proofs.Common.{◌≡◌, ◌+◌, length}
use Rattle.mt_lists.specs.Rows.{rows_left}
use Rattle.mt_terms.specs.Registration.Passes.{numbered_from}
use Rattle.mt_fault_terms.specs.OfFile.{all_parts, faults_under}
use Rattle.mt_faults.proofs.SearchFacts.{Rows}
use Rattle.mt_faults.proofs.rows.tell_rows.Given as goal

-- the faults of the rows that have yet to come are left
abbrev pub invariant-loop-row : goal.invariant-loop-row
invariant-loop-row g l = record {
  rules : l.finder.rules ≡ l.rules;
  number : l.number + length (rows_left l.row-iterator) ≡ l.fn.first + length (rows_left l.fn.rows);
  rows : Rows g.S.FaultSink.takes g.S.FaultSink.told g.S.FaultSink.stopped l.fn.sink l.sink l.rules l.finder (all_parts l.rules (numbered_from l.fn.first (rows_left l.fn.rows)))
      (numbered_from l.number (rows_left l.row-iterator)) (faults_under l.rules (numbered_from l.fn.first (rows_left l.fn.rows)));
}
