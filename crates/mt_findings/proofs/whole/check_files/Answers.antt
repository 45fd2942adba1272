use Rattle.std.proofs.Common.{inr}
use Rattle.mt_findings.proofs.whole.check_files.Goals as goal

pub returns-in-Err-clause-given : goal.returns-in-Err-clause-given
returns-in-Err-clause-given g c =
    inr (rw (c.alone.ensures.code, c.alone.ensures.row, c.alone.ensures.id, c.in-Err.ensures.kept) at c.refuse_file.ensures.given)
