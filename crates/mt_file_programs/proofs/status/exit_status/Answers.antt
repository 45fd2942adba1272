use Rattle.std.proofs.Common.{inl, inr}
use Rattle.mt_file_programs.proofs.status.exit_status.Goals as goal

pub returns-in-Ok : goal.returns-in-Ok
returns-in-Ok g c = inl (_, c.obey.ensures)

pub returns-in-Err : goal.returns-in-Err
returns-in-Err g c = inr (c.in-Err.unasked, c.in-Err.ensures, c.end_unasked.ensures)
