use Rattle.std.proofs.Common.{◌≡◌, ◌+◌, [], length}
use Rattle.mt_lists.specs.Rows.{rows_left}
use Rattle.mt_terms.specs.Registration.Passes.{first_pass, numbered_from}
use Rattle.mt_passes.specs.Registers.{records_seen, IsRegister}
use Rattle.mt_passes.proofs.first.first_pass.Given as goal

-- the number is that of the next row, and the rest decides
abbrev pub invariant-loop-row : goal.invariant-loop-row
invariant-loop-row l = record {
  register : IsRegister l.register;
  number : l.number + length (rows_left l.row-iterator) ≡ l.fn.first + length (rows_left l.fn.rows);
  goes_on : first_pass l.rules (records_seen l.register) (numbered_from l.number (rows_left l.row-iterator)) ≡ first_pass l.rules [] (numbered_from l.fn.first (rows_left l.fn.rows));
}
